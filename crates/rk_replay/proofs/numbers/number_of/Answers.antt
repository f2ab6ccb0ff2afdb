use Rattle.std.proofs.Common.{sym, ◌∙◌, arith, length, get_or}
use Rattle.std.specs.Char.{is_ascii_digit}
use Rattle.std.proofs.lemmas.Int.Digits.{digits_value_more}
use Rattle.std.proofs.lemmas.List.{take_all}
use Rattle.std.proofs.lemmas.List.Folds.{list_all_more}
use Rattle.std.proofs.lemmas.Str.{digit_value_digit}
use Rattle.rk_text.proofs.Cuts.{some_left}
use Rattle.rk_replay.proofs.Numerals.{number_is}
use Rattle.rk_replay.proofs.numbers.number_of.Goals as goal

pub loop-byte-preserved : goal.loop-byte-preserved
loop-byte-preserved c =
    let bytes = c.args.bytes.now in
    let i = c.loop-byte.byte-index in
    let more = digits_value_more 10 bytes i c.loop-byte-test.true in
    let digit = digit_value_digit (get_or bytes i 0) c.if-not-is_ascii_digit.ensures.cases in
    record {
      value = omega (arith, more, digit, c.loop-byte.invariant.value, c.in_ok-checked_mul.ensures, c.in_ok-number.ensures, c.from.ensures);
      digits = rw (list_all_more is_ascii_digit bytes i 0 c.loop-byte-test.true, c.loop-byte.invariant.digits)
          (sym c.is_ascii_digit.ensures.value ∙ c.if-not-is_ascii_digit.false);
    }

pub returns : goal.returns
returns c =
    let bytes = c.args.bytes.now in
    let some = some_left (length bytes) c.is_empty.result c.is_empty.ensures c.if-is_empty.false in
    let whole = take_all c.loop-byte.byte-index bytes c.loop-byte-test.false in
    number_is bytes c.loop-byte.number some (rw whole at c.loop-byte.invariant.digits) (rw whole at c.loop-byte.invariant.value)
