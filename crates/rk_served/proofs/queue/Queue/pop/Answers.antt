use Rattle.rk_served.proofs.Words.{ap, inr, inl, heap_items, Reverse, SessionId, reversed}
use Rattle.rk_served.proofs.Queues.{one_taken}
use Rattle.rk_served.proofs.queue.Queue.pop.Goals as goal

pub returns-in-Some-clause-others : goal.returns-in-Some-clause-others
returns-in-Some-clause-others c s has =
    elim (one_taken (heap_items c.args.self.now.movers) (heap_items c.pop.new.self) c.in-Some.field-0 c.in-Some.ensures.permutation (reversed s) has) [
      | inl e ↦ inl (ap (λ (r : Reverse SessionId). r.0) e)
      | inr h ↦ inr h
    ]
