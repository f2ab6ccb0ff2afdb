use Rattle.std.proofs.Common.{ap, sym, ◌∙◌}
use Rattle.std.specs.Prelude.{not}
use Rattle.rk_text.proofs.TextRules.{is_text-plain, is_text-utf8, is_text-not}
use Rattle.rk_text.proofs.text.is_text.Goals as goal

pub returns-in-Ok : goal.returns-in-Ok
returns-in-Ok c = ap not c.contains-has_zero.ensures.value ∙ is_text-utf8 _ c.in-Ok.ensures.cases.1

pub returns-in-Err : goal.returns-in-Err
returns-in-Err c = is_text-not _ c.in-Err.ensures.cases.0

pub returns-then-are_plain : goal.returns-then-are_plain
returns-then-are_plain c = is_text-plain _ (sym c.are_plain.ensures ∙ c.if-are_plain.true)
