use Rattle.rk_served.proofs.Words.{Beginning}
use Rattle.rk_served.proofs.Kept.{nothing_has_peers}
use Rattle.rk_served.proofs.Watching.{nothing_still}
use Rattle.rk_served.proofs.replay.Replay.new.Goals as goal

pub invariant_of-result-2 : goal.invariant_of-result-2
invariant_of-result-2 c fine =
    let from : Beginning = record { negative = c.args.limits.negative; first = c.args.limits.first; stride = c.args.limits.stride } in
    rw (c.in_ok-new.ensures, c.new-2.ensures.items) (nothing_has_peers from, nothing_still from c.new-3.result c.new-3.ensures)
