use Rattle.std.proofs.Common.{sym, ap, ◌∙◌, length}
use Rattle.rk_text.proofs.Cuts.{some_left}
use Rattle.rk_replay.specs.Values.{bytes_of}
use Rattle.rk_replay.specs.Fields.{first_as}
use Rattle.rk_replay.proofs.WholeFields.{all_digits, none_behind}
use Rattle.rk_replay.proofs.field.bytes.Goals as goal

pub returns-in-Some : goal.returns-in-Some
returns-in-Some c =
    let digits = c.skip_space-digits.result.now in
    let some = some_left (length digits) c.is_empty.result c.is_empty.ensures c.if-not-is_empty.true in
    rw (none_behind digits, c.new.ensures)
    (ap (first_as bytes_of) (sym c.skip_space-digits.ensures.same) ∙ all_digits digits c.in-Some.bytes.items some (rw c.in-Some.is at c.in_ok-bytes.ensures))
