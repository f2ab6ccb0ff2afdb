-- Where a peer stands among those in order, found by halves.
use Rattle.std.specs.Prelude.{◌-◌}
use Rattle.rk_served.proofs.Words.{refl, ◌∙◌, ap, sym, List, ◌≡◌, [], ℕ, inr, true, ◌∷◌, inl, Bool, false, cond, not, length, arith, zero, suc, ◌<◌, get_or}
use Rattle.rk_served.proofs.Words.{◌≤◌, ◌+◌, slice_get_within, get_or_from_slice_get, and_parts, not-true, false_from_ne_true, not_from_false, cases_Bool, AllPass-from_list_all, prefix_len_is}
use Rattle.rk_served.proofs.Words.{same_Some, list_all, prefix_len, IsPartitionedBy, IsPartitionPoint, Some, None, slice_get, SessionId, same-true}
use Rattle.rk_served.proofs.Words.{same_session, comes_before, are_in_order, peer_of, Peer}
use Rattle.rk_served.proofs.PeerLists.{turned}
use Rattle.rk_served.proofs.Standings.{before_trans, before_self, neither}

-- ---- a test that splits a list

-- the place up to which all pass is the number of those that pass from the front on
pub point_is : (p : Peer → Bool) (xs : List Peer) (i : ℕ) → i ≤ length xs → IsPartitionPoint (λ y. p y ≡ true) (λ y. p y ≡ false) xs i → i ≡ prefix_len p xs
point_is p [] i most at = omega arith
point_is p (x ∷ xs) i most at = sym (prefix_len_is p (x ∷ xs) i x most (λ k low. at.0 k x (omega arith) low) (λ within. at.1 i x (omega arith) within))

-- a test that splits a list, from its first one on
splits : (p : Peer → Bool) (xs : List Peer) → IsPartitionedBy p xs → (x : Peer)
    → ((j : ℕ) (d : Peer) → j < length xs → p (get_or xs j d) ≡ true → p x ≡ true) → IsPartitionedBy p (x ∷ xs)
splits p xs h x first zero zero d le within pass = pass
splits p xs h x first zero (suc j) d le within pass = first j d (omega arith) pass
splits p xs h x first (suc i) zero d le within pass = absurd (omega arith)
splits p xs h x first (suc i) (suc j) d le within pass = h i j d (omega arith) (omega arith) pass

-- ---- those who come before one

-- who comes before one that does not come after another comes before that one, or they are the same
cuts : (s t u : SessionId) → not (comes_before t s) ≡ true → comes_before t u ≡ true → comes_before s u ≡ true
cuts s t u e f = elim (cases_Bool (same_session s t)) [
  | inl same ↦ ap (λ v. comes_before v u) (same-true s t same) ∙ f
  | inr other ↦ before_trans s t u (neither t s (not-true _ e) (turned s t other)) f
]

-- peers in order are split by any session into those before it and the rest
pub before_splits : (who : SessionId) (xs : List Peer) → are_in_order xs ≡ true → IsPartitionedBy (λ x. comes_before x.who who) xs
before_splits who [] order = λ i j d le within pass. absurd (omega arith)
before_splits who (x ∷ xs) order =
    let parts = and_parts (list_all (λ y. not (comes_before y.who x.who)) xs) (are_in_order xs) order in
    splits (λ x. comes_before x.who who) xs (before_splits who xs parts.1) x
    (λ j d within pass. cuts x.who (get_or xs j d).who who (AllPass-from_list_all (λ y. not (comes_before y.who x.who)) xs parts.0 j d within) pass)

-- who does not come before another does not come before those after which that one does not stand
pub behind_splits : (who : SessionId) (xs : List Peer) → are_in_order xs ≡ true → IsPartitionedBy (λ x. not (comes_before who x.who)) xs
behind_splits who [] order = λ i j d le within pass. absurd (omega arith)
behind_splits who (x ∷ xs) order =
    let parts = and_parts (list_all (λ y. not (comes_before y.who x.who)) xs) (are_in_order xs) order in
    splits (λ x. not (comes_before who x.who)) xs (behind_splits who xs parts.1) x
    (λ j d within pass. earlier x.who (get_or xs j d).who (AllPass-from_list_all (λ y. not (comes_before y.who x.who)) xs parts.0 j d within) pass)
  where
    earlier : (s t : SessionId) → not (comes_before t s) ≡ true → not (comes_before who t) ≡ true → not (comes_before who s) ≡ true
    earlier s t e f = not_from_false _ (false_from_ne_true _ (λ g. let h = cuts t who s f g in let k = not-true _ e in cc))

-- ---- the peer of one

-- who comes before another is not that one
apart_before : (s t : SessionId) → comes_before s t ≡ true → same_session s t ≡ false
apart_before s t e = false_from_ne_true _ (λ f. let g = ap (comes_before s) (same-true s t f) in let h = before_self s in cc)

-- where a session is, and one in front of it comes before, all that come before are in front of it
pub first_at : (who : SessionId) (xs : List Peer) (i : ℕ) (x y : Peer) → are_in_order xs ≡ true → 0 < i → slice_get xs i ≡ Some x
    → same_session x.who who ≡ true → y ≡ get_or xs (i - 1) y → comes_before y.who who ≡ true → i ≡ prefix_len (λ z. comes_before z.who who) xs
first_at who xs i x y order positive at same ahead before =
    let within = slice_get_within xs i x at in
    let here = get_or_from_slice_get xs i x y at in
    sym (prefix_len_is (λ z. comes_before z.who who) xs i y (omega arith)
    (λ k low. before_splits who xs order k (i - 1) y (omega arith) (omega arith) (ap (λ (z : Peer). comes_before z.who who) (sym ahead) ∙ before))
    (λ inside. ap (λ (z : Peer). comes_before z.who who) here ∙ ap (λ v. comes_before v who) (same-true x.who who same) ∙ before_self who))

abbrev count : SessionId → List Peer → ℕ
count who xs = prefix_len (λ y. comes_before y.who who) xs

-- after one who comes before it
next : (who : SessionId) (z : Peer) (zs : List Peer) → comes_before z.who who ≡ true → slice_get zs (count who zs) ≡ slice_get (z ∷ zs) (count who (z ∷ zs))
next who z zs e =
    let one : suc (count who zs) ≡ 1 + count who zs = omega arith in
    ap (slice_get (z ∷ zs)) one ∙ ap (λ b. slice_get (z ∷ zs) (cond b (1 + count who zs) 0)) (sym e)

-- it stands after all who come before it, if it is there
pub found_there : (who : SessionId) (xs : List Peer) (x : Peer) → slice_get xs (count who xs) ≡ Some x → same_session x.who who ≡ true → peer_of xs who ≡ Some x
found_there who [] x at same = absurd (cc)
found_there who (z ∷ zs) x at same = elim (cases_Bool (comes_before z.who who)) [
  | inl e ↦ ap (λ b. cond b (Some z) (peer_of zs who)) (apart_before z.who who e) ∙ found_there who zs x (next who z zs e ∙ at) same
  | inr e ↦
      let is : z ≡ x = same_Some z x (ap (λ b. slice_get (z ∷ zs) (cond b (1 + count who zs) 0)) (sym e) ∙ at) in
      ap (λ b. cond b (Some z) (peer_of zs who)) (ap (λ (y : Peer). same_session y.who who) is ∙ same) ∙ ap (λ (y : Peer). Some y) is
]

-- none is there of those that stand after one that comes after this
none_behind : (who : SessionId) (z : Peer) (zs : List Peer) → comes_before who z.who ≡ true → list_all (λ y. not (comes_before y.who z.who)) zs ≡ true
    → peer_of zs who ≡ None
none_behind who z [] before all = refl
none_behind who z (y ∷ ys) before all =
    let parts = and_parts (not (comes_before y.who z.who)) (list_all (λ y. not (comes_before y.who z.who)) ys) all in
    ap (λ b. cond b (Some y) (peer_of ys who)) (false_from_ne_true _ (λ e.
    let f = ap (λ v. comes_before v z.who) (same-true y.who who e) in let g = not-true _ parts.0 in cc)) ∙ none_behind who z ys before parts.1

-- else it is not there
pub none_there : (who : SessionId) (xs : List Peer) → are_in_order xs ≡ true
    → ((x : Peer) → slice_get xs (count who xs) ≡ Some x → same_session x.who who ≡ false) → peer_of xs who ≡ None
none_there who [] order other = refl
none_there who (z ∷ zs) order other =
    let parts = and_parts (list_all (λ y. not (comes_before y.who z.who)) zs) (are_in_order zs) order in
    elim (cases_Bool (comes_before z.who who)) [
      | inl e ↦ ap (λ b. cond b (Some z) (peer_of zs who)) (apart_before z.who who e) ∙ none_there who zs parts.1 (λ x at. other x (sym (next who z zs e) ∙ at))
      | inr e ↦
          let own : same_session z.who who ≡ false = other z (ap (λ b. slice_get (z ∷ zs) (cond b (1 + count who zs) 0)) e) in
          ap (λ b. cond b (Some z) (peer_of zs who)) own ∙ none_behind who z zs (neither z.who who e own) parts.0
    ]
