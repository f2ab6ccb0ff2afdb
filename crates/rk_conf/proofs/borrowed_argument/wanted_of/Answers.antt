use Rattle.std.proofs.Common.{◌+◌, sym, ◌∙◌}
use Rattle.rk_lemmas.proofs.Lists.{from_place}
use Rattle.rk_conf.proofs.Macros.{none_wanted, some_wanted, bad_names}
use Rattle.rk_conf.proofs.borrowed_argument.wanted_of.Goals as goal

pub returns-then-colon-name : goal.returns-then-colon-name
returns-then-colon-name c = none_wanted c.args.name.now c.colon_place-colon.result c.if-colon-name.true c.colon_place-colon.ensures.before

pub returns-then-are_names : goal.returns-then-are_names
returns-then-are_names c =
    let valid = sym c.are_names.ensures ∙ c.if-are_names.true in
    rw (from_place c.args.name.now (c.colon_place-colon.result + 1))
    (some_wanted c.args.name.now c.colon_place-colon.result c.colon_place-colon.ensures.within c.colon_place-colon.ensures.before c.colon_place-colon.ensures.at (rw (from_place c.args.name.now (c.colon_place-colon.result + 1)) at valid))

pub returns-else-are_names : goal.returns-else-are_names
returns-else-are_names c =
    let valid = sym c.are_names.ensures ∙ c.if-are_names.false in
    bad_names c.args.name.now c.colon_place-colon.result c.colon_place-colon.ensures.within c.colon_place-colon.ensures.before c.colon_place-colon.ensures.at (rw (from_place c.args.name.now (c.colon_place-colon.result + 1)) at valid)
