use Rattle.rk_session.proofs.Words.{refl, ◌∙◌, Client, stays_same, standing_of}
use Rattle.rk_session.proofs.Seats.{moves_then, stays_moves}
use Rattle.rk_session.proofs.Sendings.{counts_same, counts_then}
use Rattle.rk_session.proofs.Talks.{all_taken, ends_then, goes_nowhere, goes_then, taken_fewer, taken_goes}
use Rattle.rk_session.proofs.serving.take_all.Goals as goal

pub loop-served-init : goal.loop-served-init
loop-served-init g c =
    let here = standing_of c.args.visit.now.place c.args.crew.now.caller.seat in
    record {
      bound = c.requires.bound;
      goes = goes_nowhere (Client c.args.visit.now.client) (g.W.Wire.shown c.args.wire.now) (g.W.Wire.shown c.args.wire.now) c.args.visit.now.frames.bytes
          c.args.visit.now.frames.bytes here here refl refl refl;
      same = refl;
      counts = counts_same _;
      reads = refl;
      moves = stays_moves _ _ _ (stays_same _);
    }

pub loop-served-smaller : goal.loop-served-smaller
loop-served-smaller g c =
    taken_fewer (Client c.loop-served.visit.client) (g.W.Wire.shown c.loop-served.wire) (g.W.Wire.shown c.next_turn.new.wire) c.loop-served.visit.frames
    c.next_turn.new.visit.frames (standing_of c.loop-served.visit.place c.loop-served.crew.caller.seat) (standing_of c.next_turn.new.visit.place c.next_turn.new.crew.caller.seat)
    (rw c.in-Ok-true.field-0-test at c.in-Ok-true.ensures.takes)

pub loop-served-preserved : goal.loop-served-preserved
loop-served-preserved g c =
    let e = c.in-Ok-true.ensures in
    let i = c.loop-served.invariant in
    let begun = standing_of c.args.visit.now.place c.args.crew.now.caller.seat in
    let here = standing_of c.loop-served.visit.place c.loop-served.crew.caller.seat in
    let there = standing_of c.next_turn.new.visit.place c.next_turn.new.crew.caller.seat in
    record {
      bound = e.bound;
      goes = goes_then (Client c.args.visit.now.client) (g.W.Wire.shown c.args.wire.now) (g.W.Wire.shown c.loop-served.wire) (g.W.Wire.shown c.next_turn.new.wire)
          c.args.visit.now.frames.bytes c.loop-served.visit.frames.bytes c.next_turn.new.visit.frames.bytes begun here there i.goes
          (taken_goes (Client c.args.visit.now.client) (g.W.Wire.shown c.loop-served.wire) (g.W.Wire.shown c.next_turn.new.wire) c.loop-served.visit.frames
          c.next_turn.new.visit.frames here there (rw i.same at (rw c.in-Ok-true.field-0-test at e.takes)));
      same = e.same ∙ i.same;
      counts = counts_then _ _ _ i.counts e.counts;
      reads = e.reads ∙ i.reads;
      moves = moves_then _ _ _ _ _ _ i.moves e.moves;
    }

pub returns-in-Ok-false-clause-takes : goal.returns-in-Ok-false-clause-takes
returns-in-Ok-false-clause-takes g c =
    all_taken (Client c.args.visit.now.client) (g.W.Wire.shown c.args.wire.now) (g.W.Wire.shown c.loop-served.wire) (g.W.Wire.shown c.next_turn.new.wire)
    c.args.visit.now.frames c.loop-served.visit.frames c.next_turn.new.visit.frames (standing_of c.args.visit.now.place c.args.crew.now.caller.seat)
    (standing_of c.loop-served.visit.place c.loop-served.crew.caller.seat) (standing_of c.next_turn.new.visit.place c.next_turn.new.crew.caller.seat) c.loop-served.invariant.goes
    (rw c.in-Ok-false.field-0-test at c.in-Ok-false.ensures.takes)

pub returns-in-Ok-false-clause-moves : goal.returns-in-Ok-false-clause-moves
returns-in-Ok-false-clause-moves g c = moves_then _ _ _ _ _ _ c.loop-served.invariant.moves c.in-Ok-false.ensures.moves

pub returns-in-Err-clause-takes : goal.returns-in-Err-clause-takes
returns-in-Err-clause-takes g c = (
  c.in-Err.ensures.takes.0,
  ends_then (Client c.args.visit.now.client) c.in-Err.served (g.W.Wire.shown c.args.wire.now) (g.W.Wire.shown c.loop-served.wire)
      (g.W.Wire.shown c.next_turn.new.wire) c.args.visit.now.frames.bytes c.loop-served.visit.frames.bytes (standing_of c.args.visit.now.place c.args.crew.now.caller.seat)
      (standing_of c.loop-served.visit.place c.loop-served.crew.caller.seat) (standing_of c.next_turn.new.visit.place c.next_turn.new.crew.caller.seat) c.loop-served.invariant.goes
      (rw c.loop-served.invariant.same at c.in-Err.ensures.takes.1),
)

pub returns-in-Err-clause-moves : goal.returns-in-Err-clause-moves
returns-in-Err-clause-moves g c = moves_then _ _ _ _ _ _ c.loop-served.invariant.moves c.in-Err.ensures.moves

pub returns-in-Ok-false-clause-counts : goal.returns-in-Ok-false-clause-counts
returns-in-Ok-false-clause-counts g c = counts_then _ _ _ c.loop-served.invariant.counts c.in-Ok-false.ensures.counts

pub returns-in-Err-clause-counts : goal.returns-in-Err-clause-counts
returns-in-Err-clause-counts g c = counts_then _ _ _ c.loop-served.invariant.counts c.in-Err.ensures.counts

pub returns-in-Ok-false-clause-same : goal.returns-in-Ok-false-clause-same
returns-in-Ok-false-clause-same g c = c.in-Ok-false.ensures.same ∙ c.loop-served.invariant.same

pub returns-in-Err-clause-same : goal.returns-in-Err-clause-same
returns-in-Err-clause-same g c = c.in-Err.ensures.same ∙ c.loop-served.invariant.same
