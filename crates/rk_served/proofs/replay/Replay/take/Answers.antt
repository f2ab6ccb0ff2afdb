use Rattle.rk_served.proofs.Words.{sym, left_of}
use Rattle.rk_served.proofs.ServedLaws.{passed_next, passed_in_order, acts_next}
use Rattle.rk_served.proofs.Kept.{acts_keeps_peers}
use Rattle.rk_served.proofs.replay.Replay.take.Goals as goal

pub returns-then-is_misplaced-clause-served : goal.returns-then-is_misplaced-clause-served
returns-then-is_misplaced-clause-served c =
    rw (← c.self.view_is) (passed_next c.self.inside.conf (left_of c.self.inside.server) c.args.now c.args.happening.now (sym c.if-is_misplaced.ensures))

pub invariant_of-self : goal.invariant_of-self
invariant_of-self c fine =
    let acts = c.in-Ok.ensures.acts in
    (acts_keeps_peers _ _ _ _ _ _ _ acts.1.acts (c.self.invariant fine).0, c.in-Ok.ensures.still)

pub returns-in-Ok-clause-served : goal.returns-in-Ok-clause-served
returns-in-Ok-clause-served c = rw (← c.self.view_is) (acts_next _ _ _ _ _ _ _ c.in-Ok.ensures.acts.1.acts)

pub returns-then-is_misplaced-clause-order : goal.returns-then-is_misplaced-clause-order
returns-then-is_misplaced-clause-order c =
    rw (← c.self.view_is) (passed_in_order c.self.inside.conf (left_of c.self.inside.server) c.args.now c.args.happening.now (sym c.if-is_misplaced.ensures))

pub returns-in-Ok-clause-order : goal.returns-in-Ok-clause-order
returns-in-Ok-clause-order c = rw (← c.self.view_is) c.in-Ok.ensures.acts
