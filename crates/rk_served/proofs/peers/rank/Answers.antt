use Rattle.rk_served.proofs.Words.{not, rules, IsPartitionPoint-from_clause, comes_before, Peer}
use Rattle.rk_served.proofs.Places.{point_is, behind_splits}
use Rattle.rk_served.proofs.peers.rank.Goals as goal

pub returns : goal.returns
returns c =
    point_is (λ (x : Peer). not (comes_before c.args.who.now x.who)) c.args.peers.now c.partition_point.result c.partition_point.ensures.bound
    (IsPartitionPoint-from_clause (λ (x : Peer). not (comes_before c.args.who.now x.who)) c.args.peers.now c.partition_point.result
    c.partition_point.ensures.partitioned (behind_splits c.args.who.now c.args.peers.now c.requires) (λ a r f q. search rules))
