use Rattle.std.proofs.Common.{sym, ◌∙◌, ap, arith}
use Rattle.rk_text.specs.Numbers.{up_to}
use Rattle.rk_text.proofs.Digits.{not_digits, digits_utf8, parsed, not_parsed, up_to-le, up_to-gt}
use Rattle.rk_text.proofs.numbers.number.Goals as goal

pub returns-then-not-are_digits : goal.returns-then-not-are_digits
returns-then-not-are_digits c = not_digits c.args.bytes.now c.args.limit (sym c.are_digits.ensures ∙ c.if-not-are_digits.true)

pub returns-in_default : goal.returns-in_default
returns-in_default c = absurd (c.in_default.ensures.cases.0 (digits_utf8 c.args.bytes.now (sym c.are_digits.ensures ∙ c.if-not-are_digits.false)))

pub returns-then-number-limit : goal.returns-then-number-limit
returns-then-number-limit c =
    let said = parsed c.args.bytes.now c.in-Ok-parse.number (sym c.are_digits.ensures
    ∙ c.if-not-are_digits.false) (rw c.in-Ok.ensures.cases.0 at c.in-Ok-parse.ensures.value.0) in
    sym (ap (up_to c.args.limit) said ∙ up_to-le c.args.limit c.in-Ok-parse.number c.if-number-limit.true)

pub returns-else-number-limit : goal.returns-else-number-limit
returns-else-number-limit c =
    let said = parsed c.args.bytes.now c.in-Ok-parse.number (sym c.are_digits.ensures
    ∙ c.if-not-are_digits.false) (rw c.in-Ok.ensures.cases.0 at c.in-Ok-parse.ensures.value.0) in
    sym (ap (up_to c.args.limit) said ∙ up_to-gt c.args.limit c.in-Ok-parse.number c.if-number-limit.false)

pub returns-in-Err : goal.returns-in-Err
returns-in-Err c =
    not_parsed _ c.args.bytes.now c.args.limit c.in-Err.field-0 (omega arith) (sym c.are_digits.ensures
    ∙ c.if-not-are_digits.false) (rw c.in-Ok.ensures.cases.0 at c.in-Err.ensures.value.0)
