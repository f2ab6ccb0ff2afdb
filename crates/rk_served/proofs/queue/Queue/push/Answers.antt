use Rattle.rk_served.proofs.Words.{heap_items, reversed}
use Rattle.rk_served.proofs.Queues.{one_put, others_kept}
use Rattle.rk_served.proofs.queue.Queue.push.Goals as goal

pub returns-clause-who : goal.returns-clause-who
returns-clause-who c = one_put (reversed c.args.who) (heap_items c.args.self.now.movers) (heap_items c.push.new.self) c.in_ok-push.ensures.permutation

pub returns-clause-movers : goal.returns-clause-movers
returns-clause-movers c s =
    others_kept (reversed c.args.who) (heap_items c.args.self.now.movers) (heap_items c.push.new.self) c.in_ok-push.ensures.permutation (reversed s)
