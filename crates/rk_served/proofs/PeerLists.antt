-- What a list of peers has for each session, after each change of it.
use Rattle.rk_served.proofs.Words.{refl, ◌∙◌, ap, sym, List, ◌≡◌, [], ℕ, true, ◌∷◌, ◌++◌, Bool, false, cond, not, length, zero, suc, ◌<◌, get_or, ◌&&◌, ◌||◌}
use Rattle.rk_served.proofs.Words.{and_parts, not-true, false_from_ne_true, or_parts, or_left, or_right, slice_get_read, same_Some, MatchOption-at_some, remove}
use Rattle.rk_served.proofs.Words.{Some, Option, None, slice_get, slice_set, is_some, IfSome, SessionId, same-true, same-self, same_session, without, peer_of}
use Rattle.rk_served.proofs.Words.{are_apart, has_peer, Peer, shadow, swap_tests}

-- ---- sessions

-- two that are one with a third are one
pub same_both : (s t u : SessionId) → same_session s u ≡ true → same_session t u ≡ true → same_session s t ≡ true
same_both s t u e f = ap (λ v. same_session v t) (same-true s u e ∙ sym (same-true t u f)) ∙ same-self t

-- who is another than one, of him that one is another
pub turned : (s t : SessionId) → same_session s t ≡ false → same_session t s ≡ false
turned s t h = false_from_ne_true _ (λ e. let f = same_both s t s (same-self s) e in cc)

-- equal peers are of one session
pub who_is : {x y : Peer} → Some x ≡ Some y → x.who ≡ y.who
who_is {x} {y} e = ap (λ (v : Peer). v.who) (same_Some x y e)

-- ---- choices

-- one is there where another one is chosen, or among the rest
pub is_chosen : (b : Bool) (x : Peer) (o : Option Peer) → is_some (cond b (Some x) o) ≡ (b || is_some o)
is_chosen true x o = refl
is_chosen false x o = refl

or_swap : (a b c : Bool) → (a || (b || c)) ≡ (b || (a || c))
or_swap true true c = refl
or_swap true false c = refl
or_swap false b c = refl

-- ---- one peer more

-- a peer before the others is of another one
pub apart_from : (x : Peer) (xs : List Peer) (s : SessionId) → has_peer (x ∷ xs) s ≡ false → (same_session x.who s ≡ false) × (has_peer xs s ≡ false)
apart_from x xs s h = or_parts _ _ (sym (is_chosen (same_session x.who s) x (peer_of xs s)) ∙ h)

-- one that is added is that of its own session, and every other session has what it had
pub peer_added : (before after : List Peer) (x : Peer) → has_peer (before ++ after) x.who ≡ false → (t : SessionId)
    → peer_of (before ++ x ∷ after) t ≡ cond (same_session x.who t) (Some x) (peer_of (before ++ after) t)
peer_added [] after x none t = refl
peer_added (b ∷ bs) after x none t =
    let apart = apart_from b (bs ++ after) x.who none in
    ap (cond (same_session b.who t) (Some b)) (peer_added bs after x apart.1 t)
    ∙ swap_tests (same_session b.who t) (same_session x.who t) _ _ _ (λ e f. let g = same_both b.who x.who t e f in let h = apart.0 in cc)

has_added : (before after : List Peer) (x : Peer) (t : SessionId) → has_peer (before ++ x ∷ after) t ≡ (same_session x.who t || has_peer (before ++ after) t)
has_added [] after x t = is_chosen (same_session x.who t) x (peer_of after t)
has_added (b ∷ bs) after x t =
    is_chosen (same_session b.who t) b _ ∙ ap (λ c. same_session b.who t || c) (has_added bs after x t)
    ∙ or_swap (same_session b.who t) (same_session x.who t) _
    ∙ ap (λ c. same_session x.who t || c) (sym (is_chosen (same_session b.who t) b (peer_of (bs ++ after) t)))

-- nobody has two after one is added whose session had none
pub apart_added : (before after : List Peer) (x : Peer) → has_peer (before ++ after) x.who ≡ false → are_apart (before ++ after) ≡ true
    → are_apart (before ++ x ∷ after) ≡ true
apart_added [] after x none apart = (λ i. not (none i) && apart i)
apart_added (b ∷ bs) after x none apart =
    let parts = and_parts _ _ apart in
    let from = apart_from b (bs ++ after) x.who none in
    let other : has_peer (bs ++ x ∷ after) b.who ≡ false = has_added bs after x b.who ∙ (λ i. turned b.who x.who from.0 i || not-true _ parts.0 i) in
    (λ i. not (other i) && apart_added bs after x from.1 parts.1 i)

-- ---- one peer less

-- after one is taken out its session has none, and every other has what it had
pub peer_without : (s : SessionId) (xs : List Peer) (t : SessionId) → peer_of (without s xs) t ≡ cond (same_session s t) None (peer_of xs t)
peer_without s [] t = none_left (same_session s t)
  where
    none_left : (b : Bool) → ◌≡◌ {A = Option Peer} None (cond b None None)
    none_left true = refl
    none_left false = refl
peer_without s (x ∷ xs) t = by_test (peer_without s xs t) (same_session x.who s) refl
  where
    by_test : peer_of (without s xs) t ≡ cond (same_session s t) None (peer_of xs t) → (b : Bool) → same_session x.who s ≡ b
        → peer_of (cond (not b) (x ∷ without s xs) (without s xs)) t ≡ cond (same_session s t) None (peer_of (x ∷ xs) t)
    by_test rest true e =
        rest ∙ sym (ap (λ v. cond (same_session s t) None (cond (same_session v t) (Some x) (peer_of xs t))) (same-true x.who s e)
        ∙ shadow (same_session s t) None (Some x) (peer_of xs t))
    by_test rest false e =
        ap (cond (same_session x.who t) (Some x)) rest
        ∙ swap_tests (same_session x.who t) (same_session s t) _ None _ (λ p q. let g = same_both x.who s t p q in cc)

-- nobody has two after one is taken out
pub apart_without : (s : SessionId) (xs : List Peer) → are_apart xs ≡ true → are_apart (without s xs) ≡ true
apart_without s [] apart = refl
apart_without s (x ∷ xs) apart =
    let parts = and_parts _ _ apart in
    by_test (not (same_session x.who s)) (ap is_some (peer_without s xs x.who) ∙ none (same_session s x.who) _ (not-true _ parts.0))
    (apart_without s xs parts.1)
  where
    none : (b : Bool) (o : Option Peer) → is_some o ≡ false → is_some (cond b None o) ≡ false
    none true o h = refl
    none false o h = h

    by_test : (b : Bool) → has_peer (without s xs) x.who ≡ false → are_apart (without s xs) ≡ true → are_apart (cond b (x ∷ without s xs) (without s xs)) ≡ true
    by_test true other rest = (λ i. not (other i) && rest i)
    by_test false other rest = rest

-- ---- a peer is changed

under : (f : Option Peer → Bool) (b : Bool) (u v u' v' : Option Peer) → f u ≡ f u' → f v ≡ f v' → f (cond b u v) ≡ f (cond b u' v')
under f true u v u' v' e g = e
under f false u v u' v' e g = g

-- a test that sees no difference between the one at a place and another sees none in what the sessions have after that one came for it
pub seen_alike : (f : Option Peer → Bool) (xs : List Peer) (i : ℕ) (x y : Peer) → slice_get xs i ≡ Some x → y.who ≡ x.who → f (Some y) ≡ f (Some x)
    → (t : SessionId) → f (peer_of (slice_set xs i y) t) ≡ f (peer_of xs t)
seen_alike f [] i x y at same alike t = refl
seen_alike f (z ∷ zs) zero x y at same alike t =
    ap (λ s. f (cond (same_session s t) (Some y) (peer_of zs t))) (same ∙ sym (who_is at))
    ∙ under f (same_session z.who t) (Some y) _ (Some z) _ (alike ∙ ap (λ (v : Peer). f (Some v)) (sym (same_Some z x at))) refl
seen_alike f (z ∷ zs) (suc i) x y at same alike t = under f (same_session z.who t) (Some z) _ (Some z) _ refl (seen_alike f zs i x y at same alike t)

-- nobody has two after the one at a place is changed
pub apart_set : (xs : List Peer) (i : ℕ) (x y : Peer) → slice_get xs i ≡ Some x → y.who ≡ x.who → are_apart (slice_set xs i y) ≡ are_apart xs
apart_set [] i x y at same = refl
apart_set (z ∷ zs) zero x y at same = ap (λ s. not (has_peer zs s) && are_apart zs) (same ∙ sym (who_is at))
apart_set (z ∷ zs) (suc i) x y at same = (λ j. not (seen_alike is_some zs i x y at same refl z.who j) && apart_set zs i x y at same j)

-- what is there at a place has a peer
pub at_has : (xs : List Peer) (i : ℕ) (x : Peer) → slice_get xs i ≡ Some x → has_peer xs x.who ≡ true
at_has [] i x at = absurd (cc)
at_has (z ∷ zs) zero x at = is_chosen (same_session z.who x.who) z _ ∙ or_left _ _ (ap (λ s. same_session s x.who) (who_is at) ∙ same-self x.who)
at_has (z ∷ zs) (suc i) x at = is_chosen (same_session z.who x.who) z _ ∙ or_right _ _ (at_has zs i x at)

-- if nobody has two, the first one is of another session than one at a later place
pub apart_at : (z : Peer) (zs : List Peer) (i : ℕ) (x : Peer) → are_apart (z ∷ zs) ≡ true → slice_get zs i ≡ Some x → same_session z.who x.who ≡ false
apart_at z zs i x apart at =
    false_from_ne_true _ (λ e. let f : has_peer zs z.who ≡ true = ap (has_peer zs) (same-true z.who x.who e) ∙ at_has zs i x at in
    let g = not-true _ (and_parts (not (has_peer zs z.who)) (are_apart zs) apart).0 in cc)

-- and the one at a place is what its session has
pub at_place : (xs : List Peer) (i : ℕ) (x : Peer) → are_apart xs ≡ true → slice_get xs i ≡ Some x → peer_of xs x.who ≡ Some x
at_place [] i x apart at = absurd (cc)
at_place (z ∷ zs) zero x apart at =
    ap (λ (v : Peer). cond (same_session v.who x.who) (Some v) (peer_of zs x.who)) (same_Some z x at)
    ∙ ap (λ b. cond b (Some x) (peer_of zs x.who)) (same-self x.who)
at_place (z ∷ zs) (suc i) x apart at = ap (λ b. cond b (Some z) (peer_of zs x.who)) (apart_at z zs i x apart at) ∙ at_place zs i x (and_parts _ _ apart).1 at

-- then after a change its session has the new one, and every other has what it had
pub peer_set : (xs : List Peer) (i : ℕ) (x y : Peer) → are_apart xs ≡ true → slice_get xs i ≡ Some x → y.who ≡ x.who → (t : SessionId)
    → peer_of (slice_set xs i y) t ≡ cond (same_session x.who t) (Some y) (peer_of xs t)
peer_set [] i x y apart at same t = absurd (cc)
peer_set (z ∷ zs) zero x y apart at same t =
    ap (λ s. cond (same_session s t) (Some y) (peer_of zs t)) same
    ∙ sym (ap (λ s. cond (same_session x.who t) (Some y) (cond (same_session s t) (Some z) (peer_of zs t))) (who_is at)
    ∙ shadow (same_session x.who t) (Some y) (Some z) (peer_of zs t))
peer_set (z ∷ zs) (suc i) x y apart at same t =
    ap (cond (same_session z.who t) (Some z)) (peer_set zs i x y (and_parts _ _ apart).1 at same t)
    ∙ swap_tests (same_session z.who t) (same_session x.who t) _ _ _ (λ e f. let g = same_both z.who x.who t e f in let h = apart_at z zs i x apart at in cc)

-- ---- a peer is taken by its place

-- the one that was read at the place of this one's peer is its own
pub found_at : (xs : List Peer) (i : ℕ) (s : SessionId) (x : Peer) → i < length xs → x ≡ get_or xs i x
    → IfSome (slice_get xs i) (λ y. (y.who ≡ s) × (peer_of xs s ≡ Some y)) → (slice_get xs i ≡ Some x) × (x.who ≡ s)
found_at xs i s x within read found =
    let at = slice_get_read xs _ i x refl within read in
    (at, (MatchOption-at_some _ _ x at found).0)

-- who has none, of whom none is taken
pub without_none : (xs : List Peer) (s : SessionId) → has_peer xs s ≡ false → without s xs ≡ xs
without_none [] s none = refl
without_none (x ∷ xs) s none =
    let apart = apart_from x xs s none in
    ap (λ b. cond (not b) (x ∷ without s xs) (without s xs)) apart.0 ∙ ap (λ ys. x ∷ ys) (without_none xs s apart.1)

-- one of its own was taken already
pub without_removed : (xs : List Peer) (i : ℕ) (s : SessionId) (y : Peer) → slice_get xs i ≡ Some y → y.who ≡ s → without s (remove xs i) ≡ without s xs
without_removed [] i s y at is = absurd (cc)
without_removed (x ∷ xs) zero s y at is =
    sym (ap (λ b. cond (not b) (x ∷ without s xs) (without s xs)) (ap (λ v. same_session v s) (who_is at ∙ is) ∙ same-self s))
without_removed (x ∷ xs) (suc i) s y at is = ap (λ ys. cond (not (same_session x.who s)) (x ∷ ys) ys) (without_removed xs i s y at is)

-- if nobody has two, the one at a place is the only one of its own
pub removed_at : (xs : List Peer) (i : ℕ) (s : SessionId) (y : Peer) → are_apart xs ≡ true → slice_get xs i ≡ Some y → y.who ≡ s → remove xs i ≡ without s xs
removed_at [] i s y apart at is = absurd (cc)
removed_at (x ∷ xs) zero s y apart at is =
    sym (without_none xs s (ap (has_peer xs) (sym (who_is at ∙ is)) ∙ not-true _ (and_parts _ _ apart).0)) ∙ without_removed (x ∷ xs) zero s y at is
removed_at (x ∷ xs) (suc i) s y apart at is =
    ap (λ ys. x ∷ ys) (removed_at xs i s y (and_parts _ _ apart).1 at is)
    ∙ ap (λ b. cond (not b) (x ∷ without s xs) (without s xs)) (sym (ap (same_session x.who) (sym is) ∙ apart_at x xs i y apart at))
