use Rattle.std.proofs.Common.{sym, ◌∙◌, lit<}
use Rattle.rk_lemmas.proofs.Lists.{from_place}
use Rattle.rk_conf.proofs.Macros.{after_byte}
use Rattle.rk_conf.proofs.program.path_of.Goals as goal

pub returns-then-begins_with-clause-text : goal.returns-then-begins_with-clause-text
returns-then-begins_with-clause-text c t =
    rw (from_place c.args.prog.now 1) (after_byte 124 c.args.prog.now (lit< tt) (sym c.begins_with.ensures ∙ c.if-begins_with.true) t)
