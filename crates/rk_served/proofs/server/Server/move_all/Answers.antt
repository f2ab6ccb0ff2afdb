use Rattle.rk_served.proofs.Orders.{moves_more}
use Rattle.rk_served.proofs.Kept.{move_keeps_peers}
use Rattle.rk_served.proofs.Weight.{lighter}
use Rattle.rk_served.proofs.server.Server.move_all.Goals as goal

pub loop-smaller : goal.loop-smaller
loop-smaller c =
    let one = rw c.if-branch.true at c.in_ok-move_one.ensures.moves in
    lighter _ _ _ _ _ _ one.first.move c.loop.invariant.has_peers

pub loop-preserved : goal.loop-preserved
loop-preserved c =
    let one = rw c.if-branch.true at c.in_ok-move_one.ensures.moves in
    record {
      moves = moves_more _ _ _ _ _ _ _ _ c.loop.invariant.moves one;
      has_peers = move_keeps_peers _ _ _ _ _ _ one.first.move c.loop.invariant.has_peers;
      watched = c.in_ok-move_one.ensures.watched;
    }
