use Rattle.rk_served.proofs.Words.{left_of, MovesSome, IsWatched, HasItsPeers}
use Rattle.rk_served.proofs.Weight.{weight}
use Rattle.rk_served.proofs.server.Server.move_all.Given as goal

abbrev pub invariant-loop : goal.invariant-loop
invariant-loop l = record {
  moves : MovesSome l.occasion.conf.now l.occasion.moment (left_of l.fn.self) l.fn.out.items (left_of l.self) l.out.items;
  has_peers : HasItsPeers (left_of l.self);
  watched : IsWatched l.queue (left_of l.self);
}

abbrev pub decreases-loop : goal.decreases-loop
decreases-loop l = weight (left_of l.self)
