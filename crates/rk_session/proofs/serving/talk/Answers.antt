use Rattle.rk_session.proofs.Words.{◌≡◌, refl, sym, ap, ◌∙◌, subst, arith, Err, Client, IsPartial, raised_by, Hears, TurnsUsed, at_first, standing_of}
use Rattle.rk_session.proofs.Words.{stays_same, nothing_held}
use Rattle.rk_session.proofs.Seats.{moves_then, stays_moves}
use Rattle.rk_session.proofs.Sendings.{counts_same, counts_then, hears_counts, hears_ends, hears_kept, hears_more, hears_reads, parts_ends, parts_in_turns, parts_kept, parts_reads, parts_unused}
use Rattle.rk_session.proofs.Talks.{Stands, hears_talked, most_more, parts_talked, raised_none, reads_more, stands_ends, stands_first, stands_on, stands_read, used_ends}
use Rattle.rk_session.proofs.serving.talk.Goals as goal

pub loop-init : goal.loop-init
loop-init g c =
    let wire = g.W.Wire.shown c.args.wire.now in
    record {
      bound = c.requires.bound;
      stands = subst (λ place. Stands (Client c.args.visit.now.client) c.args.crew.now.caller.seat wire wire c.args.visit.now.frames.bytes (standing_of place c.args.crew.now.caller.seat))
          (sym c.requires.first)
          (subst (λ held. Stands (Client c.args.visit.now.client) c.args.crew.now.caller.seat wire wire held (standing_of at_first c.args.crew.now.caller.seat))
          (sym c.requires.frames.0) (stands_first (Client c.args.visit.now.client) c.args.crew.now.caller.seat wire));
      same = refl;
      is_partial = subst IsPartial (sym c.requires.frames.0) nothing_held;
      room = c.requires.frames.1;
      reads = raised_none _;
      greatest = omega arith;
      counts = counts_same _;
      moves = stays_moves _ _ _ (stays_same _);
    }

-- the end at a read

pub returns-in-Err-clause-talked : goal.returns-in-Err-clause-talked
returns-in-Err-clause-talked g c =
    hears_talked (Client c.args.visit.now.client) c.args.crew.now.caller.seat c.in-Err.served (g.W.Wire.shown c.args.wire.now) (g.W.Wire.shown c.loop.wire)
    (g.W.Wire.shown c.hear.new.wire) c.loop.visit.frames.bytes c.hear.new.piece (standing_of c.loop.visit.place c.loop.crew.caller.seat) c.loop.invariant.stands
    c.loop.invariant.is_partial c.in-Err.ensures.hears

pub returns-in-Err-clause-fault : goal.returns-in-Err-clause-fault
returns-in-Err-clause-fault g c = hears_ends c.in-Err.served c.hear.new.piece _ _ _ c.loop.invariant.counts c.in-Err.ensures.hears

pub returns-in-Err-clause-sent : goal.returns-in-Err-clause-sent
returns-in-Err-clause-sent g c = hears_kept c.in-Err.served c.hear.new.piece _ _ c.in-Err.ensures.hears

pub returns-in-Err-clause-turns : goal.returns-in-Err-clause-turns
returns-in-Err-clause-turns g c =
    λ is. absurd (subst (λ s. Hears (Err s) c.hear.new.piece (g.W.Wire.shown c.loop.wire) (g.W.Wire.shown c.hear.new.wire)) is c.in-Err.ensures.hears)

pub returns-in-Err-clause-reads : goal.returns-in-Err-clause-reads
returns-in-Err-clause-reads g c =
    let more = hears_reads c.in-Err.served c.hear.new.piece (g.W.Wire.shown c.loop.wire) (g.W.Wire.shown c.hear.new.wire) c.in-Err.ensures.hears in
    omega (arith, more, c.loop.invariant.greatest, c.loop-test.true)

-- the end at a message

pub returns-in-Err-take_all-clause-talked : goal.returns-in-Err-take_all-clause-talked
returns-in-Err-take_all-clause-talked g c =
    let here = standing_of c.loop.visit.place c.loop.crew.caller.seat in
    let last = standing_of c.take_all.new.visit.place c.take_all.new.crew.caller.seat in
    let begun = g.W.Wire.shown c.args.wire.now in
    parts_talked (Client c.args.visit.now.client) c.in-Err-take_all.served c.part.result c.args.crew.now.caller.seat last begun (g.W.Wire.shown c.take_all.new.wire)
    (g.W.Wire.shown c.part.new.wire) (parts_in_turns c.in-Err-take_all.served _ c.in-Err-take_all.ensures.takes.0)
    (stands_ends (Client c.args.visit.now.client) c.in-Err-take_all.served c.args.crew.now.caller.seat last begun (g.W.Wire.shown c.hear.new.wire)
    (g.W.Wire.shown c.take_all.new.wire) c.feed.new.self.bytes here
    (stands_read (Client c.args.visit.now.client) c.args.crew.now.caller.seat begun (g.W.Wire.shown c.loop.wire) (g.W.Wire.shown c.hear.new.wire) c.loop.visit.frames.bytes
    c.feed.new.self.bytes c.hear.new.piece here c.in-Ok.count _ c.loop.invariant.stands c.loop.invariant.is_partial c.in-Ok.ensures.bound c.in-Ok.ensures.same
    c.in-Ok.ensures.hears c.in-Ok-feed.ensures.ok)
    (rw c.loop.invariant.same at c.in-Err-take_all.ensures.takes.1))
    c.part.ensures

pub returns-in-Err-take_all-clause-fault : goal.returns-in-Err-take_all-clause-fault
returns-in-Err-take_all-clause-fault g c =
    parts_ends c.in-Err-take_all.served c.part.result _ _ _ (parts_in_turns c.in-Err-take_all.served _ c.in-Err-take_all.ensures.takes.0)
    (counts_then _ _ _ (counts_then _ _ _ c.loop.invariant.counts (hears_counts c.in-Ok.count c.hear.new.piece _ _ c.in-Ok.ensures.hears)) c.in-Err-take_all.ensures.counts)
    c.part.ensures

pub returns-in-Err-take_all-clause-sent : goal.returns-in-Err-take_all-clause-sent
returns-in-Err-take_all-clause-sent g c =
    parts_kept c.in-Err-take_all.served c.part.result (g.W.Wire.shown c.take_all.new.wire) (g.W.Wire.shown c.part.new.wire) c.part.ensures

pub returns-in-Err-take_all-clause-turns : goal.returns-in-Err-take_all-clause-turns
returns-in-Err-take_all-clause-turns g c =
    λ is. absurd (parts_unused c.in-Err-take_all.served c.part.result _ _ c.in-Err-take_all.ensures.takes.0 c.part.ensures is)

pub returns-in-Err-take_all-clause-reads : goal.returns-in-Err-take_all-clause-reads
returns-in-Err-take_all-clause-reads g c =
    let heard = hears_more c.in-Ok.count c.hear.new.piece (g.W.Wire.shown c.loop.wire) (g.W.Wire.shown c.hear.new.wire) c.in-Ok.ensures.hears in
    let parted =
    parts_reads c.in-Err-take_all.served c.part.result (g.W.Wire.shown c.take_all.new.wire) (g.W.Wire.shown c.part.new.wire) c.part.ensures in
    let most = most_more c.loop.counter _ _ _ _ c.loop.invariant.greatest heard (parted ∙ c.in-Err-take_all.ensures.reads) in
    omega (arith, most, c.loop-test.true)

-- the end of the reads

pub returns-clause-talked : goal.returns-clause-talked
returns-clause-talked g c =
    parts_talked (Client c.args.visit.now.client) TurnsUsed c.part-2.result c.args.crew.now.caller.seat (standing_of c.loop.visit.place c.loop.crew.caller.seat)
    (g.W.Wire.shown c.args.wire.now) (g.W.Wire.shown c.loop.wire) (g.W.Wire.shown c.part-2.new.wire) tt
    (used_ends (Client c.args.visit.now.client) c.args.crew.now.caller.seat (g.W.Wire.shown c.args.wire.now) (g.W.Wire.shown c.loop.wire) c.loop.visit.frames.bytes
    (standing_of c.loop.visit.place c.loop.crew.caller.seat) c.loop.invariant.stands c.loop.invariant.is_partial)
    c.part-2.ensures

pub returns-clause-fault : goal.returns-clause-fault
returns-clause-fault g c = parts_ends TurnsUsed c.part-2.result _ _ _ tt c.loop.invariant.counts c.part-2.ensures

pub returns-clause-sent : goal.returns-clause-sent
returns-clause-sent g c = parts_kept TurnsUsed c.part-2.result (g.W.Wire.shown c.loop.wire) (g.W.Wire.shown c.part-2.new.wire) c.part-2.ensures

pub returns-clause-turns : goal.returns-clause-turns
returns-clause-turns g c =
    let parted = parts_reads TurnsUsed c.part-2.result (g.W.Wire.shown c.loop.wire) (g.W.Wire.shown c.part-2.new.wire) c.part-2.ensures in
    let last : c.loop.counter ≡ 1048576 = omega (arith, c.loop-test.false, c.loop.auto.counter-end) in
    λ is. parted ∙ c.loop.invariant.reads ∙ ap (λ n. raised_by n (g.W.Wire.shown c.args.wire.now).reads) last

pub returns-clause-reads : goal.returns-clause-reads
returns-clause-reads g c =
    let parted = parts_reads TurnsUsed c.part-2.result (g.W.Wire.shown c.loop.wire) (g.W.Wire.shown c.part-2.new.wire) c.part-2.ensures in
    omega (arith, parted, c.loop.invariant.greatest, c.loop.auto.counter-end)

pub loop-preserved : goal.loop-preserved
loop-preserved g c =
    let e = c.in-Ok-take_all.ensures in
    let i = c.loop.invariant in
    let is = hears_more c.in-Ok.count c.hear.new.piece (g.W.Wire.shown c.loop.wire) (g.W.Wire.shown c.hear.new.wire) c.in-Ok.ensures.hears in
    let here = standing_of c.loop.visit.place c.loop.crew.caller.seat in
    record {
      bound = e.bound;
      stands = stands_on (Client c.args.visit.now.client) c.args.crew.now.caller.seat (g.W.Wire.shown c.args.wire.now) (g.W.Wire.shown c.hear.new.wire)
          (g.W.Wire.shown c.take_all.new.wire) c.feed.new.self.bytes c.take_all.new.visit.frames.bytes here
          (standing_of c.take_all.new.visit.place c.take_all.new.crew.caller.seat)
          (stands_read (Client c.args.visit.now.client) c.args.crew.now.caller.seat (g.W.Wire.shown c.args.wire.now) (g.W.Wire.shown c.loop.wire)
          (g.W.Wire.shown c.hear.new.wire) c.loop.visit.frames.bytes c.feed.new.self.bytes c.hear.new.piece here c.in-Ok.count _ i.stands i.is_partial
          c.in-Ok.ensures.bound c.in-Ok.ensures.same c.in-Ok.ensures.hears c.in-Ok-feed.ensures.ok)
          (rw i.same at e.takes.0);
      same = e.same ∙ i.same;
      is_partial = e.takes.1;
      room = e.takes.2;
      reads = reads_more c.loop.counter _ _ _ _ i.reads is e.reads;
      greatest = most_more c.loop.counter _ _ _ _ i.greatest is e.reads;
      counts = counts_then _ _ _ (counts_then _ _ _ i.counts (hears_counts c.in-Ok.count c.hear.new.piece _ _ c.in-Ok.ensures.hears)) e.counts;
      moves = moves_then _ _ _ _ _ _ i.moves e.moves;
    }
