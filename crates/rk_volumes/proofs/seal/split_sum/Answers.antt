use Rattle.rk_volumes.proofs.Words.{sha256, ◌++◌, ap, ◌≡◌, length, arith, ◌≢◌, length-append, ◌-◌}
use Rattle.rk_volumes.proofs.Sealing.{cut_at, no_sum_short, no_sum_other}
use Rattle.rk_volumes.proofs.seal.split_sum.Goals as goal

pub returns-in_default-clause-only : goal.returns-in_default-clause-only
returns-in_default-clause-only c = no_sum_short c.args.file.now c.in_default.ensures.cases

pub returns-else-has_sum-clause-only : goal.returns-else-has_sum-clause-only
returns-else-has_sum-clause-only c =
    let file = c.args.file.now in
    let front = c.in-Some.front.now in
    let sum = c.in-Some.sum.now in
    let at = c.in-Some.ensures.cases in
    let whole : file ≡ front ++ sum = cut_at file front sum (length file - 32) at.0 at.1 in
    let other : sha256 front ≢ sum = λ same. let yes = c.has_sum.ensures.1 same in let no = c.if-has_sum.false in cc in
    no_sum_other file front sum whole (omega (arith, at.2, ap length whole, length-append front sum)) other
