use Rattle.rk_served.proofs.Words.{refl, subst, inr, inl, slice_get_read, MatchOption-at_some, left_of, MovesOne, Left}
use Rattle.rk_served.proofs.Moving.{next_left, rests_more, asks_one, refuses_one}
use Rattle.rk_served.proofs.Standings.{order_replaced}
use Rattle.rk_served.proofs.server.Server.take_at.Goals as goal

pub returns-in-More : goal.returns-in-More
returns-in-More c =
    let x = c.index_mut-peer.result.now in
    let peers = c.args.self.now.peers in
    let moment = c.args.occasion.now.moment in
    let at = slice_get_read peers.items _ c.args.index x peers.ok.0 c.requires.within c.index_mut-peer.ensures.value in
    let free = MatchOption-at_some _ _ x at c.requires.free in
    let next = rw c.in-More.is at c.in_ok-next.ensures in (
      next_left (left_of c.args.self.now) moment c.args.index x.who x.subject x.channel c.next.new.self c.next.new.book at (inl next),
      refl,
      rests_more (left_of c.args.self.now) moment c.args.index x.who x.subject x.channel c.next.new.self c.next.new.book at free.0 next,
    )

pub returns-in_ok-put_answer-in-Answered : goal.returns-in_ok-put_answer-in-Answered
returns-in_ok-put_answer-in-Answered c =
    let x = c.index_mut-peer.result.now in
    let peers = c.args.self.now.peers in
    let at = slice_get_read peers.items _ c.args.index x peers.ok.0 c.requires.within c.index_mut-peer.ensures.value in
    let free = MatchOption-at_some _ _ x at c.requires.free in
    let next = rw c.in-Answered.is at c.in_ok-next.ensures in
    asks_one c.args.occasion.now.conf.now c.args.occasion.now.moment (left_of c.args.self.now) _ _ _ c.args.index x.who x.subject x.channel c.next.new.self
    c.in-Answered.answer c.next.new.book at free next (c.in_ok-put_answer-in-Answered.ensures c.args.self.now.book)

pub returns-in_ok-put_reply-in-Refused : goal.returns-in_ok-put_reply-in-Refused
returns-in_ok-put_reply-in-Refused c =
    let x = c.index_mut-peer.result.now in
    let peers = c.args.self.now.peers in
    let at = slice_get_read peers.items _ c.args.index x peers.ok.0 c.requires.within c.index_mut-peer.ensures.value in
    let free = MatchOption-at_some _ _ x at c.requires.free in
    let next = rw c.in-Refused.is at c.in_ok-next.ensures in
    refuses_one c.args.occasion.now.conf.now c.args.occasion.now.moment (left_of c.args.self.now) _ _ _ c.args.index x.who x.subject x.channel c.next.new.self
    c.in-Refused.errno at free next refl c.in_ok-put_reply-in-Refused.ensures

pub returns-in_ok-fault_at-in-Fault : goal.returns-in_ok-fault_at-in-Fault
returns-in_ok-fault_at-in-Fault c =
    let x = c.index_mut-peer.result.now in
    let peers = c.args.self.now.peers in
    let at = slice_get_read peers.items _ c.args.index x peers.ok.0 c.requires.within c.index_mut-peer.ensures.value in
    let next = rw c.in-Fault.is at c.in_ok-next.ensures in
    subst (λ (l : Left). MovesOne c.args.occasion.now.conf.now c.args.occasion.now.moment c.args.index l c.args.out.now.items (left_of c.fault_at.new.self)
    c.fault_at.new.out.items)
    (next_left (left_of c.args.self.now) c.args.occasion.now.moment c.args.index x.who x.subject x.channel c.next.new.self c.next.new.book at (inr next))
    (c.in_ok-fault_at-in-Fault.ensures c.args.occasion.now.conf.now)

pub invariant_of-self : goal.invariant_of-self
invariant_of-self c =
    record {
      in_order = order_replaced c.args.self.now.peers.items c.args.index c.index_mut-peer.result.now c.next.new.self c.index_mut-peer.ensures.value
          c.args.self.now.in_order;
    }
