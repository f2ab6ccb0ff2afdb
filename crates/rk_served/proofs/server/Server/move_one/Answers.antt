use Rattle.rk_served.proofs.Words.{◌∙◌, subst, left_of, RestsBy, Left, Parks}
use Rattle.rk_served.proofs.Watching.{watched_popped, watched_after, watched_parked, moves_first, at_rest, emptied}
use Rattle.rk_served.proofs.server.Server.move_one.Goals as goal

pub returns-then-branch-clause-moves : goal.returns-then-branch-clause-moves
returns-then-branch-clause-moves c =
    let old = left_of c.args.self.now in
    let by = rw (c.if-branch.true, c.loop-who.invariant.same, c.loop-who.invariant.put) at c.in_ok-move_by.ensures in
    let but = watched_popped c.in-Some.who c.loop-who.queue c.pop.new.self old c.loop-who.invariant.watched c.in-Some.ensures.others c.in-Some.ensures.waiters in
    moves_first c.args.occasion.now.conf.now c.args.occasion.now.moment c.in-Some.who c.pop.new.self old (left_of c.move_by.new.self) c.args.out.now.items c.move_by.new.out.items by but
    c.in-Some.ensures.first

pub returns-then-branch-clause-watched : goal.returns-then-branch-clause-watched
returns-then-branch-clause-watched c =
    let old = left_of c.args.self.now in
    let by = rw (c.if-branch.true, c.loop-who.invariant.same, c.loop-who.invariant.put) at c.in_ok-move_by.ensures in
    let but = watched_popped c.in-Some.who c.loop-who.queue c.pop.new.self old c.loop-who.invariant.watched c.in-Some.ensures.others c.in-Some.ensures.waiters in
    watched_after c.args.occasion.now.conf.now c.args.occasion.now.moment c.in-Some.who c.pop.new.self c.stir.new.queue old (left_of c.move_by.new.self) c.args.out.now.items
    c.move_by.new.out.items by c.requires.has_peers but c.in_ok-stir.ensures

pub loop-who-preserved : goal.loop-who-preserved
loop-who-preserved c =
    let old = left_of c.args.self.now in
    let no = rw c.if-branch.false at c.in_ok-move_by.ensures in
    let but = watched_popped c.in-Some.who c.loop-who.queue c.pop.new.self old c.loop-who.invariant.watched c.in-Some.ensures.others c.in-Some.ensures.waiters in
    record {
      same = no.0 ∙ c.loop-who.invariant.same;
      put = no.1 ∙ c.loop-who.invariant.put;
      watched = watched_parked c.in-Some.who c.pop.new.self c.park.new.queue old c.requires.has_peers.apart but
          (subst (λ (l : Left). RestsBy c.in-Some.who l) c.loop-who.invariant.same no.2)
          (subst (λ (l : Left). Parks l.world c.in-Some.who c.pop.new.self c.park.new.queue) (no.0 ∙ c.loop-who.invariant.same) c.in_ok-park.ensures);
    }

pub returns-clause-moves : goal.returns-clause-moves
returns-clause-moves c = (
  c.loop-who.invariant.same,
  c.loop-who.invariant.put,
  at_rest c.loop-who.queue (left_of c.args.self.now) c.loop-who.invariant.watched c.in_default.ensures.none,
)

pub returns-clause-watched : goal.returns-clause-watched
returns-clause-watched c =
    (emptied c.loop-who.queue c.pop.new.self (left_of c.args.self.now) (left_of c.loop-who.self) c.loop-who.invariant.same c.loop-who.invariant.watched
    c.in_default.ensures.none c.in_default.ensures.still_none c.in_default.ensures.waiters).watched

pub returns-clause-still : goal.returns-clause-still
returns-clause-still c _ =
    emptied c.loop-who.queue c.pop.new.self (left_of c.args.self.now) (left_of c.loop-who.self) c.loop-who.invariant.same c.loop-who.invariant.watched
    c.in_default.ensures.none c.in_default.ensures.still_none c.in_default.ensures.waiters
