use Rattle.rk_served.proofs.Words.{refl, ◌∙◌, ap, sym, arith, slice_get_read, same_Some, slice_get_within, slice_get, same-true, same_session, Peer}
use Rattle.rk_served.proofs.Places.{found_there, none_there}
use Rattle.rk_served.proofs.peers.index_of.Goals as goal
use Rattle.rk_served.proofs.peers.index_of.Goals.{else-index-peers-via-then-index-peers+else-same, else-index-peers-via-else-index-peers}

pub returns-then-same-clause-found : goal.returns-then-same-clause-found
returns-then-same-clause-found c =
    let xs = c.args.peers.now in
    let x = c.index-peers-index.result in
    let at = slice_get_read xs _ c.count_before-index.result x refl c.if-index-peers.true c.index-peers-index.is in
    let same = ap (λ (y : Peer). same_session y.who c.args.who.now) c.index-peers-index.is ∙ sym c.same.ensures ∙ c.if-same.true in
    rw at (same-true x.who c.args.who.now same, found_there c.args.who.now xs x (ap (slice_get xs) (sym c.count_before-index.ensures) ∙ at) same)

pub returns-else-index-peers-clause-none : goal.returns-else-index-peers-clause-none
returns-else-index-peers-clause-none c =
    let xs = c.args.peers.now in
    let who = c.args.who.now in
    let place = c.count_before-index.ensures in
    elim c.else-index-peers.branch [
      | else-index-peers-via-then-index-peers+else-same w ↦
          let at = slice_get_read xs _ c.count_before-index.result w.index-peers-index.result refl w.if-index-peers.true w.index-peers-index.is in
          none_there who xs c.requires (λ x there. ap (λ (y : Peer). same_session y.who who) (same_Some _ _ (sym there ∙ ap (slice_get xs) (sym place) ∙ at))
          ∙ ap (λ (y : Peer). same_session y.who who) w.index-peers-index.is ∙ sym w.same.ensures ∙ w.if-same.false)
      | else-index-peers-via-else-index-peers w ↦
          none_there who xs c.requires (λ x there. absurd
          (let inside = slice_get_within xs _ x (ap (slice_get xs) place ∙ there) in let past = w.if-index-peers.false in grind arith))
    ]
