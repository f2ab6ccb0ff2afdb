use Rattle.rk_served.proofs.Words.{left_of}
use Rattle.rk_served.proofs.Watching.{back_pushed, back_done}
use Rattle.rk_served.proofs.server.Server.go_on.Goals as goal

pub returns-then-is_used_up : goal.returns-then-is_used_up
returns-then-is_used_up c =
    back_done (left_of c.args.self.now) c.args.who.now c.args.queue.now c.requires (c.is_used_up.ensures c.if-is_used_up.true c.requires)

pub returns : goal.returns
returns c =
    back_pushed c.push.result (left_of c.args.self.now) c.args.who.now c.args.queue.now c.push.new.self c.push.ensures.who c.push.ensures.movers c.push.ensures.waiters
