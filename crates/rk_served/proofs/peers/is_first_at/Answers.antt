use Rattle.rk_served.proofs.Words.{refl, ◌∙◌, ap, sym, arith, slice_get_read, Peer, comes_before}
use Rattle.rk_served.proofs.Places.{first_at}
use Rattle.rk_served.proofs.peers.is_first_at.Goals as goal

pub returns-else-index-eq0 : goal.returns-else-index-eq0
returns-else-index-eq0 c passed =
    let who = c.args.who.now in
    let y = c.index-peers-index in
    let before = ap (λ (z : Peer). comes_before z.who who) y.is ∙ sym c.comes_before.ensures ∙ passed in
    let same = c.if-not-same.ensures in
    let here = c.in-Some.ensures.lookup in
    let positive = c.if-index-eq0.false in
    first_at who c.args.peers.now c.args.index c.in-Some.peer.now y.result c.requires (grind arith) (slice_get_read c.args.peers.now _ c.args.index c.in-Some.peer.now refl here.3.0 here.1) (sym same) y.is before
