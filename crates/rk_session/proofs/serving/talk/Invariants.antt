use Rattle.rk_session.proofs.Words.{◌≡◌, ◌≤◌, ◌+◌, Client, IsPartial, most, raised_by, Moves, standing_of, Counts}
use Rattle.rk_session.proofs.Talks.{Stands}
use Rattle.rk_session.proofs.serving.talk.Given as goal

abbrev pub invariant-loop : goal.invariant-loop
invariant-loop g l = record {
  bound : (g.P.Launcher.Launcher.shown l.crew.launcher).count ≤ most;
  stands : Stands (Client l.fn.visit.client) l.fn.crew.caller.seat (g.W.Wire.shown l.fn.wire) (g.W.Wire.shown l.wire) l.visit.frames.bytes
      (standing_of l.visit.place l.crew.caller.seat);
  same : l.visit.client ≡ l.fn.visit.client;
  is_partial : IsPartial l.visit.frames.bytes;
  room : 4096 ≤ l.visit.frames.room;
  reads : (g.W.Wire.shown l.wire).reads ≡ raised_by l.counter (g.W.Wire.shown l.fn.wire).reads;
  greatest : (g.W.Wire.shown l.wire).reads ≤ (g.W.Wire.shown l.fn.wire).reads + l.counter;
  counts : Counts (g.W.Wire.shown l.fn.wire) (g.W.Wire.shown l.wire);
  moves : Moves l.fn.visit.place.hall l.visit.place.hall l.fn.crew.caller.seat l.crew.caller.seat;
}
