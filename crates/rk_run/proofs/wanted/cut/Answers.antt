use Rattle.std.proofs.Common.{sym, ◌∙◌, string_bytes}
use Rattle.rk_run.proofs.Cutting.{map_behind}
use Rattle.rk_run.proofs.wanted.cut.Goals as goal

pub returns-in-Some-clause-behind : goal.returns-in-Some-clause-behind
returns-in-Some-clause-behind c =
    rw (sym c.place.ensures.is) (map_behind string_bytes c.place.result c.args.words.now _ _ (sym c.split_at.ensures.back ∙ c.in-Some.ensures.cases.0))
