use Rattle.rk_served.proofs.Words.{sym, List, subst, inr, inl, heap_items, Contains, Reverse, SessionId, reversed}
use Rattle.rk_served.proofs.Queues.{first_kept, last_put, others_stay}
use Rattle.rk_served.proofs.queue.Queue.wake.Goals as goal

pub returns-clause-woken : goal.returns-clause-woken
returns-clause-woken c s has =
    last_put (heap_items c.taken.new.self.movers) c.taken.result.items (heap_items c.from-woken.result) (heap_items c.append.new.self)
    c.from-woken.ensures.1 c.in_ok-append.ensures.permutation (reversed s)
    (subst (λ (xs : List (Reverse SessionId)). Contains xs (reversed s)) (sym c.taken.ensures.items) has)

pub returns-clause-movers : goal.returns-clause-movers
returns-clause-movers c s has =
    first_kept (heap_items c.taken.new.self.movers) (heap_items c.from-woken.result) (heap_items c.append.new.self) c.in_ok-append.ensures.permutation
    (reversed s) (rw c.taken.ensures.movers has)

pub returns-clause-known : goal.returns-clause-known
returns-clause-known c k s has =
    elim (others_stay c.args.self.now.waiting.facts c.taken.new.self.waiting.facts c.args.key c.taken.ensures.facts k (reversed s) has) [
      | inl h ↦ inl (returns-clause-woken c s h)
      | inr h ↦ inr h
    ]
