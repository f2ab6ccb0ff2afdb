-- The peers stand in order, after each change of them.
use Rattle.rk_served.proofs.Words.{refl, ◌∙◌, ap, sym, List, ◌≡◌, [], subst, ℕ, inr, true, ◌∷◌, inl, ◌++◌, Bool, false, cond, not, length, arith, zero, suc}
use Rattle.rk_served.proofs.Words.{get_or, ◌&&◌, ◌≤◌, ◌+◌, take, drop, take-append-drop, and_parts, not-true, false_from_ne_true, not_from_false, and_from}
use Rattle.rk_served.proofs.Words.{cases_lt, set_past, All-filter, AllPass-from_list_all, prefix_len-le-length, list_all-from_AllPass, slice_get_read, remove}
use Rattle.rk_served.proofs.Words.{list_all, position_or_len, Some, slice_get, slice_set, insert, SessionId, Handler, Client, same_session, peer, without}
use Rattle.rk_served.proofs.Words.{comes_before, are_in_order, Channel, Peer}
use Rattle.std.proofs.lemmas.Bool.Decides.{nat_tests}
use Rattle.rk_served.proofs.PeerLists.{who_is}

-- ---- the order

-- who comes before one that comes before another comes before that one
pub before_trans : (s t u : SessionId) → comes_before s t ≡ true → comes_before t u ≡ true → comes_before s u ≡ true
before_trans (Client l) (Client m) (Client n) e f = grind (arith, nat_tests)
before_trans (Client l) (Client m) (Handler k) e f = refl
before_trans (Client l) (Handler j) (Client n) e f = absurd (cc)
before_trans (Client l) (Handler j) (Handler k) e f = refl
before_trans (Handler i) (Client m) u e f = absurd (cc)
before_trans (Handler i) (Handler j) (Client n) e f = absurd (cc)
before_trans (Handler i) (Handler j) (Handler k) e f = grind (arith, nat_tests)

-- nobody comes before himself
pub before_self : (s : SessionId) → comes_before s s ≡ false
before_self (Client n) = grind (arith, nat_tests)
before_self (Handler k) = grind (arith, nat_tests)

-- of two that are not one, who does not come before the other comes after it
pub neither : (s t : SessionId) → comes_before s t ≡ false → same_session s t ≡ false → comes_before t s ≡ true
neither (Client m) (Client n) e f = grind (arith, nat_tests)
neither (Client m) (Handler k) e f = absurd (cc)
neither (Handler j) (Client n) e f = refl
neither (Handler j) (Handler k) e f = grind (arith, nat_tests)

-- who does not come before one does not come before those that it comes after
pub not_before : (s t u : SessionId) → comes_before t u ≡ true → not (comes_before s u) ≡ true → not (comes_before s t) ≡ true
not_before s t u e f = not_from_false _ (false_from_ne_true _ (λ g. let h = before_trans s t u g e in let k = not-true _ f in cc))

other_way : (s t : SessionId) → comes_before s t ≡ true → not (comes_before t s) ≡ true
other_way s t e = not_before t s t e (not_from_false _ (before_self t))

-- ---- a test of all

all_weaker : (p q : Peer → Bool) → ((x : Peer) → p x ≡ true → q x ≡ true) → (xs : List Peer) → list_all p xs ≡ true → list_all q xs ≡ true
all_weaker p q h xs e = list_all-from_AllPass q xs (λ k d within. h _ (AllPass-from_list_all p xs e k d within))

all_added : (p : Peer → Bool) (before after : List Peer) (y : Peer) → list_all p (before ++ after) ≡ true → p y ≡ true → list_all p (before ++ y ∷ after) ≡ true
all_added p [] after y e f = and_from (p y) (list_all p after) f e
all_added p (b ∷ bs) after y e f = (let parts = and_parts (p b) (list_all p (bs ++ after)) e in
    and_from (p b) (list_all p (bs ++ y ∷ after)) parts.0 (all_added p bs after y parts.1 f))

all_without : (p : Peer → Bool) (s : SessionId) (xs : List Peer) → list_all p xs ≡ true → list_all p (without s xs) ≡ true
all_without p s xs e = list_all-from_AllPass p _ (All-filter (λ x. not (same_session x.who s)) (λ x. p x ≡ true) xs (AllPass-from_list_all p xs e))

-- a test of who sits there
abbrev asks : (SessionId → Bool) → Peer → Bool
asks p x = p x.who

all_set : (p : SessionId → Bool) (xs : List Peer) (i : ℕ) (x y : Peer) → slice_get xs i ≡ Some x → y.who ≡ x.who
    → list_all (asks p) (slice_set xs i y) ≡ list_all (asks p) xs
all_set p [] i x y at who = refl
all_set p (z ∷ zs) zero x y at who = ap (λ (s : SessionId). p s && list_all (asks p) zs) (who ∙ sym (who_is at))
all_set p (z ∷ zs) (suc i) x y at who = ap (λ (b : Bool). p z.who && b) (all_set p zs i x y at who)

-- ---- one peer more

-- from the first one on that comes after it, no peer comes before it
behind : (who : SessionId) (z : Peer) (zs : List Peer) → comes_before who z.who ≡ true → are_in_order (z ∷ zs) ≡ true
    → list_all (λ x. not (comes_before x.who who)) (z ∷ zs) ≡ true
behind who z zs e order =
    let parts = and_parts (list_all (λ x. not (comes_before x.who z.who)) zs) (are_in_order zs) order in
    and_from (not (comes_before z.who who)) (list_all (λ x. not (comes_before x.who who)) zs) (other_way who z.who e)
    (all_weaker (λ x. not (comes_before x.who z.who)) (λ x. not (comes_before x.who who)) (λ x. not_before x.who who z.who e) zs parts.0)

all_inserted : (p : Peer → Bool) (xs : List Peer) (i : ℕ) (y : Peer) → list_all p xs ≡ true → p y ≡ true → list_all p (insert xs i y) ≡ true
all_inserted p xs i y all own = all_added p (take i xs) (drop i xs) y (ap (list_all p) (take-append-drop i xs) ∙ all) own

-- before the first that it comes before, or after all
pub order_inserted : (xs : List Peer) (y : Peer) → are_in_order xs ≡ true
    → are_in_order (insert xs (position_or_len (λ x. comes_before y.who x.who) xs) y) ≡ true
order_inserted [] y order = refl
order_inserted (z ∷ zs) y order = by_test (order_inserted zs y) (comes_before y.who z.who) refl
  where
    by_test : (are_in_order zs ≡ true → are_in_order (insert zs (position_or_len (λ x. comes_before y.who x.who) zs) y) ≡ true) → (b : Bool)
        → comes_before y.who z.who ≡ b
        → are_in_order (insert (z ∷ zs) (cond (not b) (1 + position_or_len (λ x. comes_before y.who x.who) zs) 0) y) ≡ true
    by_test rest true e = and_from (list_all (λ x. not (comes_before x.who y.who)) (z ∷ zs)) (are_in_order (z ∷ zs)) (behind y.who z zs e order) order
    by_test rest false e =
        let parts = and_parts (list_all (λ x. not (comes_before x.who z.who)) zs) (are_in_order zs) order in
        let i = position_or_len (λ x. comes_before y.who x.who) zs in
        let one : suc i ≡ 1 + i = omega arith in
        subst (λ (n : ℕ). are_in_order (insert (z ∷ zs) n y) ≡ true) one
        (and_from (list_all (λ x. not (comes_before x.who z.who)) (insert zs i y)) (are_in_order (insert zs i y))
        (all_inserted (λ x. not (comes_before x.who z.who)) zs i y parts.0 (ap not e)) (rest parts.1))

-- the place of the first that passes is at most the length
pub position_within : (p : Peer → Bool) (xs : List Peer) → position_or_len p xs ≤ length xs
position_within p xs = prefix_len-le-length (λ x. not (p x)) xs

-- ---- one peer less

-- peers stay in order where one session's is taken out
pub order_without : (s : SessionId) (xs : List Peer) → are_in_order xs ≡ true → are_in_order (without s xs) ≡ true
order_without s [] order = refl
order_without s (x ∷ xs) order =
    let parts = and_parts (list_all (λ y. not (comes_before y.who x.who)) xs) (are_in_order xs) order in
    by_test (all_without (λ y. not (comes_before y.who x.who)) s xs parts.0) (order_without s xs parts.1) (not (same_session x.who s))
  where
    by_test : list_all (λ y. not (comes_before y.who x.who)) (without s xs) ≡ true → are_in_order (without s xs) ≡ true → (b : Bool)
        → are_in_order (cond b (x ∷ without s xs) (without s xs)) ≡ true
    by_test own rest true = and_from (list_all (λ y. not (comes_before y.who x.who)) (without s xs)) (are_in_order (without s xs)) own rest
    by_test own rest false = rest

all_removed : (p : Peer → Bool) (xs : List Peer) (i : ℕ) → list_all p xs ≡ true → list_all p (remove xs i) ≡ true
all_removed p [] zero all = refl
all_removed p [] (suc i) all = refl
all_removed p (x ∷ xs) zero all = (and_parts (p x) (list_all p xs) all).1
all_removed p (x ∷ xs) (suc i) all = (let parts = and_parts (p x) (list_all p xs) all in
    and_from (p x) (list_all p (remove xs i)) parts.0 (all_removed p xs i parts.1))

-- peers stay in order where one place is removed
pub order_removed : (xs : List Peer) (i : ℕ) → are_in_order xs ≡ true → are_in_order (remove xs i) ≡ true
order_removed [] zero order = refl
order_removed [] (suc i) order = refl
order_removed (x ∷ xs) zero order = (and_parts (list_all (λ y. not (comes_before y.who x.who)) xs) (are_in_order xs) order).1
order_removed (x ∷ xs) (suc i) order =
    let parts = and_parts (list_all (λ y. not (comes_before y.who x.who)) xs) (are_in_order xs) order in
    and_from (list_all (λ y. not (comes_before y.who x.who)) (remove xs i)) (are_in_order (remove xs i))
    (all_removed (λ y. not (comes_before y.who x.who)) xs i parts.0) (order_removed xs i parts.1)

-- ---- another peer of the same one

order_set : (xs : List Peer) (i : ℕ) (x y : Peer) → slice_get xs i ≡ Some x → y.who ≡ x.who → are_in_order (slice_set xs i y) ≡ are_in_order xs
order_set [] i x y at who = refl
order_set (z ∷ zs) zero x y at who = ap (λ (s : SessionId). list_all (λ v. not (comes_before v.who s)) zs && are_in_order zs) (who ∙ sym (who_is at))
order_set (z ∷ zs) (suc i) x y at who =
    ap (λ (b : Bool). b && are_in_order (slice_set zs i y)) (all_set (λ s. not (comes_before s z.who)) zs i x y at who)
    ∙ ap (λ (b : Bool). list_all (λ v. not (comes_before v.who z.who)) zs && b) (order_set zs i x y at who)

-- it is the one that was read at its place, with something else
pub order_replaced : (xs : List Peer) (i : ℕ) (x : Peer) (p : Channel) → x ≡ get_or xs i x → are_in_order xs ≡ true
    → are_in_order (slice_set xs i (peer x.who p x.subject)) ≡ true
order_replaced xs i x p read order = elim (cases_lt i (length xs)) [
  | inl within ↦ order_set xs i x _ (slice_get_read xs _ i x refl within read) refl ∙ order
  | inr past ↦ ap are_in_order (set_past xs i _ past) ∙ order
]
