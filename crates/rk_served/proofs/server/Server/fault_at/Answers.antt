use Rattle.rk_served.proofs.Words.{refl, ◌∙◌, ap, sym, ◌≡◌, slice_get_read, same_Some, MatchOption-at_some, Some, slice_set, SessionId, Handler, has_wait, peer}
use Rattle.rk_served.proofs.Words.{Channel, Peer}
use Rattle.rk_served.proofs.Moving.{shuts_client_one, shuts_handler_one}
use Rattle.rk_served.proofs.Standings.{order_replaced}
use Rattle.rk_served.proofs.server.Server.fault_at.Goals as goal

pub returns-in_ok-push-in-Client : goal.returns-in_ok-push-in-Client
returns-in_ok-push-in-Client c conf =
    let x = c.index.result.now in
    let at = slice_get_read c.args.self.now.peers.items _ c.args.index x c.args.self.now.peers.ok.0 c.requires.within c.index.ensures in
    let free = MatchOption-at_some _ _ x at c.requires.free in
    let fault = MatchOption-at_some _ _ x at c.requires.fault in
    shuts_client_one conf c.args.now _ _ _ _ c.args.index x.subject c.in-Client.client x.channel
    (at ∙ ap (λ (s : SessionId). Some (peer s x.channel x.subject)) c.in-Client.is) fault
    (ap (λ (s : SessionId). has_wait c.args.self.now.book s) (sym c.in-Client.is) ∙ free.0, free.1)
    c.step.result c.step.ensures.step c.remove.ensures.without c.in_ok-push-in-Client.ensures.items

pub returns-in_ok-push-in-Handler : goal.returns-in_ok-push-in-Handler
returns-in_ok-push-in-Handler c conf =
    let x = c.index_mut.result.now in
    let at = slice_get_read c.args.self.now.peers.items _ c.args.index x c.args.self.now.peers.ok.0 c.requires.within c.index_mut.ensures.value in
    let first = slice_get_read c.args.self.now.peers.items _ c.args.index c.index.result.now c.args.self.now.peers.ok.0 c.requires.within c.index.ensures in
    let same : x ≡ c.index.result.now = same_Some _ _ (sym at ∙ first) in
    let who : x.who ≡ Handler c.in-Handler.key = ap (λ (v : Peer). v.who) same ∙ c.in-Handler.is in
    let free = MatchOption-at_some _ _ x at c.requires.free in
    let fault = MatchOption-at_some _ _ x at c.requires.fault in
    shuts_handler_one conf c.args.now _ _ _ _ c.args.index x.subject c.in-Handler.key x.channel
    (at ∙ ap (λ (s : SessionId). Some (peer s x.channel x.subject)) who) fault
    (ap (λ (s : SessionId). has_wait c.args.self.now.book s) (sym who) ∙ free.0, free.1)
    refl (ap (λ (s : SessionId). slice_set c.args.self.now.peers.items c.args.index (peer s c.shut.new.self x.subject)) who
    ∙ ap (λ (p : Channel). slice_set c.args.self.now.peers.items c.args.index (peer (Handler c.in-Handler.key) p x.subject)) c.shut.ensures)
    c.in_ok-push-in-Handler.ensures.items

pub invariant_of-self-in-Handler : goal.invariant_of-self-in-Handler
invariant_of-self-in-Handler c =
    record {
      in_order = order_replaced c.args.self.now.peers.items c.args.index c.index_mut.result.now c.shut.new.self c.index_mut.ensures.value
          c.args.self.now.in_order;
    }
