use Rattle.std.proofs.Common.{◌+◌, ◌*◌, arith, ◌∙◌}
use Rattle.std.specs.Prelude.{slice_index}
use Rattle.hex.proofs.Pairs.{decode_step, decode_done}
use Rattle.hex.proofs.HexLemmas.{decode_of-even}
use Rattle.rk_replay.proofs.Tables.{pair_of}
use Rattle.rk_replay.proofs.digits.fill.Goals as goal

pub bytes-preserved : goal.bytes-preserved
bytes-preserved c =
    let digits = c.args.digits.now in
    let i = c.bytes.i in
    let pair = pair_of (slice_index digits (2 * i)) (slice_index digits (2 * i + 1)) (2 * i) (rw c.value-high.ensures at c.if-high-ge-NO_DIGIT.false)
    (rw c.value-low.ensures at c.if-low-ge-NO_DIGIT.false) in
    decode_step digits c.bytes.bytes i _ (omega arith) (omega arith) (rw (c.value-high.ensures, c.value-low.ensures) pair) c.bytes.invariant

pub returns : goal.returns
returns c _ =
    decode_of-even c.args.digits.now (omega arith) ∙ decode_done c.args.digits.now c.bytes.bytes c.bytes.i (omega arith) (omega arith) c.bytes.invariant
