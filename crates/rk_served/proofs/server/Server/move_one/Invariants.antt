use Rattle.rk_served.proofs.Words.{◌≡◌, left_of, IsWatched, size}
use Rattle.rk_served.proofs.server.Server.move_one.Given as goal

abbrev pub invariant-loop-who : goal.invariant-loop-who
invariant-loop-who l = record {
  same : left_of l.self ≡ left_of l.fn.self;
  put : l.out.items ≡ l.fn.out.items;
  watched : IsWatched l.queue (left_of l.fn.self);
}

abbrev pub decreases-loop-who : goal.decreases-loop-who
decreases-loop-who l = size l.queue
