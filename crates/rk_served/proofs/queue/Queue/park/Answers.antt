use Rattle.rk_served.proofs.Words.{refl, ◌∙◌, ap, List, [], ◌∷◌, ◌++◌, Bool, cond, eq-eqb, None, Reverse, SessionId, get_removed, reversed}
use Rattle.std.specs.FinMap as map
use Rattle.rk_served.proofs.Queues.{one_parked, others_wait}
use Rattle.rk_served.proofs.queue.Queue.park.Goals as goal

pub insert-requires-clause-new : goal.insert-requires-clause-new
insert-requires-clause-new c =
    rw (c.reserve.ensures.facts, c.taken-list.ensures.facts, c.get.ensures.number) (get_removed c.args.self.now.waiting.facts c.args.key c.args.key
    ∙ ap (λ (b : Bool). cond b None (map.get c.args.self.now.waiting.facts c.args.key)) (eq-eqb c.args.key c.args.key refl))

pub returns-clause-who : goal.returns-clause-who
returns-clause-who c =
    one_parked c.args.self.now.waiting.facts c.insert.new.self.facts c.args.key c.push.new.self (reversed c.args.who)
    (rw (c.insert.ensures.facts, c.reserve.ensures.facts, c.taken-list.ensures.facts, c.get.ensures.number) refl)
    (c.in_ok-push.ensures.items ∙ ap (λ (xs : List (Reverse SessionId)). xs ++ reversed c.args.who ∷ []) c.taken-list.ensures.items)

pub returns-clause-waiters : goal.returns-clause-waiters
returns-clause-waiters c k s =
    others_wait c.args.self.now.waiting.facts c.insert.new.self.facts c.args.key c.push.new.self (reversed c.args.who)
    (rw (c.insert.ensures.facts, c.reserve.ensures.facts, c.taken-list.ensures.facts, c.get.ensures.number) refl)
    (c.in_ok-push.ensures.items ∙ ap (λ (xs : List (Reverse SessionId)). xs ++ reversed c.args.who ∷ []) c.taken-list.ensures.items) k (reversed s)
