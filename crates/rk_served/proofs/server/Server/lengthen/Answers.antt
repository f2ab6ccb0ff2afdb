use Rattle.rk_served.proofs.Standings.{order_replaced}
use Rattle.rk_served.proofs.server.Server.lengthen.Goals as goal

pub invariant_of-self : goal.invariant_of-self
invariant_of-self c =
    record {
      in_order = order_replaced c.args.self.now.peers.items c.in-Some.index c.index_mut.result.now c.feed.new.self c.index_mut.ensures.value
          c.args.self.now.in_order;
    }
