use Rattle.rk_served.proofs.Words.{◌∙◌, sym, left_of}
use Rattle.rk_served.proofs.Watching.{back_pushed, back_parked}
use Rattle.rk_served.proofs.server.Server.put_back.Goals as goal

pub returns-then-ready : goal.returns-then-ready
returns-then-ready c =
    back_pushed c.push.result (left_of c.args.self.now) c.args.who.now c.args.queue.now c.push.new.self c.push.ensures.who c.push.ensures.movers c.push.ensures.waiters

pub returns-else-ready : goal.returns-else-ready
returns-else-ready c =
    back_parked c.park.result (left_of c.args.self.now) c.args.who.now c.args.key c.args.queue.now c.park.new.self c.requires (sym c.ready.ensures ∙ c.if-ready.false)
    c.park.ensures.who c.park.ensures.movers c.park.ensures.waiters
