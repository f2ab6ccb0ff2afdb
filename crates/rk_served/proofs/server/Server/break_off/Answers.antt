use Rattle.rk_served.proofs.Words.{refl, on_ok_weaker, None, Fault, left_of}
use Rattle.rk_served.proofs.OwnSteps.{has_ended, break_one}
use Rattle.rk_served.proofs.server.Server.break_off.Goals as goal

pub returns-in-Some : goal.returns-in-Some
returns-in-Some c =
    let key = c.args.key in
    let old = left_of c.args.self.now in
    let x = c.in-Some.peer in
    let sits = c.in-Some.ensures.found in
    on_ok_weaker c.end.result (λ ends. break_one c.args.occasion.now.conf.now c.args.occasion.now.moment key old x sits c.args.out.now.items _ _ ends)
    (c.end.ensures key old.peers
    (has_ended c.args.occasion.now.conf.now c.args.occasion.now.moment key old x sits Fault None _ c.requires.has_peers c.requires.owed refl c.in-Some.ensures.rest))

pub invariant_of-self : goal.invariant_of-self
invariant_of-self c = record { in_order = c.take.ensures.order }
