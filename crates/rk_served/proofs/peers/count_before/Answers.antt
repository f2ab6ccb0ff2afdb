use Rattle.rk_served.proofs.Words.{rules, IsPartitionPoint-from_clause, comes_before, Peer}
use Rattle.rk_served.proofs.Places.{point_is, before_splits}
use Rattle.rk_served.proofs.peers.count_before.Goals as goal

pub returns : goal.returns
returns c =
    point_is (λ (x : Peer). comes_before x.who c.args.who.now) c.args.peers.now c.partition_point.result c.partition_point.ensures.bound
    (IsPartitionPoint-from_clause (λ (x : Peer). comes_before x.who c.args.who.now) c.args.peers.now c.partition_point.result
    c.partition_point.ensures.partitioned (before_splits c.args.who.now c.args.peers.now c.requires) (λ a r f q. search rules))
