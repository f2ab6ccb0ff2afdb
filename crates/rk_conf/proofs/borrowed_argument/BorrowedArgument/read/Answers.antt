use Rattle.std.proofs.Common.{lit<, sym, ◌∙◌}
use Rattle.rk_lemmas.proofs.Lists.{from_place}
use Rattle.rk_conf.proofs.Macros.{argument-macro, argument-literal, after_byte}
use Rattle.rk_conf.proofs.borrowed_argument.BorrowedArgument.read.Goals as goal

pub returns-then-begins_with-clause-argument : goal.returns-then-begins_with-clause-argument
returns-then-begins_with-clause-argument c =
    rw (argument-macro c.args.field.now (sym c.begins_with.ensures ∙ c.if-begins_with.true), ← from_place c.args.field.now 1) c.borrowed_macro.ensures.argument

pub returns-then-begins_with-clause-text : goal.returns-then-begins_with-clause-text
returns-then-begins_with-clause-text c t =
    c.borrowed_macro.ensures.text (rw (from_place c.args.field.now 1) (after_byte 37 c.args.field.now (lit< tt) (sym c.begins_with.ensures ∙ c.if-begins_with.true) t))

pub returns-else-begins_with-clause-argument : goal.returns-else-begins_with-clause-argument
returns-else-begins_with-clause-argument c = sym (argument-literal c.args.field.now (sym c.begins_with.ensures ∙ c.if-begins_with.false))
