-- A walk of as many steps as there are constructions finds what any walk finds.
use Rattle.rk_auth.proofs.Words.{◌∙◌, ap, sym, ◌≡◌, subst, refl, ℕ, cond, arith, true, false, inl, inr, ◌||◌, Bool, ◌-◌, ◌⊎◌, ◌≤◌, zero, suc, both_ways, eq-eqb}
use Rattle.rk_auth.proofs.Words.{ne_eqb, eqb-true, nat_cmp_total, get, FinMap, remove, len, get-empty, empty_of_len, len-remove, get-remove, contains_key}
use Rattle.rk_auth.proofs.Words.{option_map_or, nat_cmp, Some, None, nat_eq, is_some, Option, option_map, option_and_then, tie, Says, SessionId, Leads, its_own}
use Rattle.rk_auth.proofs.Words.{further, next_key, Sessions, handler_in, leads_within, next_of, Construction}
use Rattle.rk_auth.specs.Walk.{waited_key}
use Rattle.std.specs.FinMap as map
use Rattle.rk_names.specs.declared.numbers.SessionId.TheVariants.{Client, Handler}

-- from k, by the key on which a handler waits, one comes to own
pub data LeadsIn : (m : FinMap nat_cmp Construction) (k own : ℕ) → Type 0 where
  at_own : {m : FinMap nat_cmp Construction} (k : ℕ) → LeadsIn m k k
  by_next : {m : FinMap nat_cmp Construction} {own : ℕ} (k j : ℕ) → next_of m k ≡ Some j → LeadsIn m j own → LeadsIn m k own

same_key : (m : FinMap nat_cmp Construction) (k own : ℕ) → nat_eq k own ≡ true → LeadsIn m k own
same_key m k own e = subst (λ x. LeadsIn m k x) (eqb-true k own e) (at_own k)

-- ---- what the walk finds is there

sound_step : (m : FinMap nat_cmp Construction) (n k own : ℕ) (o : Option ℕ) → ((j : ℕ) → leads_within m n j own ≡ true → LeadsIn m j own) → next_of m k ≡ o
    → option_map_or (λ j. leads_within m n j own) o false ≡ true → LeadsIn m k own
sound_step m n k own None again is e = absurd (both_ways false refl e)
sound_step m n k own (Some j) again is e = by_next k j is (again j e)

pub walk_sound : (m : FinMap nat_cmp Construction) (n k own : ℕ) → leads_within m n k own ≡ true → LeadsIn m k own
walk_sound m zero k own e = same_key m k own e
walk_sound m (suc n) k own e =
    elim (nat_eq k own) as (λ b. nat_eq k own ≡ b → (b || option_map_or (λ j. leads_within m n j own) (next_of m k) false) ≡ true → LeadsIn m k own) [
      | true ↦ λ t e. same_key m k own t
      | false ↦ λ t e. sound_step m n k own (next_of m k) (λ j. walk_sound m n j own) refl e
    ] refl e

-- ---- what is there, the walk finds

removed_other : (m : FinMap nat_cmp Construction) (k j : ℕ) → nat_eq k j ≡ false → next_of (remove m k) j ≡ next_of m j
removed_other m k j other = ap (option_and_then waited_key) (get-remove nat_cmp_total m k j ∙ ap (λ b. cond b None (get m j)) (tie j k ∙ other))

removed_none : (m : FinMap nat_cmp Construction) (k j : ℕ) → nat_eq k j ≡ true → next_of (remove m k) j ≡ None
removed_none m k j same = ap (option_and_then waited_key) (get-remove nat_cmp_total m k j ∙ ap (λ b. cond b None (get m j)) (tie j k ∙ same))

kept_next : (m : FinMap nat_cmp Construction) (k j i : ℕ) → next_of (remove m k) j ≡ Some i → next_of m j ≡ Some i
kept_next m k j i is =
    elim (nat_eq k j) as (λ b. nat_eq k j ≡ b → next_of m j ≡ Some i) [
      | true ↦ λ t. let none : next_of (remove m k) j ≡ None = removed_none m k j t in absurd (cc)
      | false ↦ λ t. sym (removed_other m k j t) ∙ is
    ] refl

cut_step : (m : FinMap nat_cmp Construction) (k first : ℕ) → next_of m k ≡ Some first → (j own i : ℕ) → next_of m j ≡ Some i
    → LeadsIn (remove m k) i own ⊎ LeadsIn (remove m k) first own → LeadsIn (remove m k) j own ⊎ LeadsIn (remove m k) first own
cut_step m k first is j own i next (inr there) = inr there
cut_step m k first is j own i next (inl there) =
    elim (nat_eq k j) as (λ b. nat_eq k j ≡ b → LeadsIn (remove m k) j own ⊎ LeadsIn (remove m k) first own) [
      | true ↦ λ t.
          let one : next_of m k ≡ Some i = ap (next_of m) (eqb-true k j t) ∙ next in
          let same : i ≡ first = cc in
          inr (subst (λ x. LeadsIn (remove m k) x own) same there)
      | false ↦ λ t. inl (by_next j i (removed_other m k j t ∙ next) there)
    ] refl

-- a chain need not pass a key twice: its last part begins at the key after k
cut : (m : FinMap nat_cmp Construction) (k first : ℕ) → next_of m k ≡ Some first → (j own : ℕ) → LeadsIn m j own
    → LeadsIn (remove m k) j own ⊎ LeadsIn (remove m k) first own
cut m k first is j own (at_own i) = inl (at_own i)
cut m k first is j own (by_next j' i next rest) = cut_step m k first is j own i next (cut m k first is i own rest)

more_step : (m : FinMap nat_cmp Construction) (k n j own : ℕ) (o : Option ℕ)
    → ((i : ℕ) → leads_within (remove m k) n i own ≡ true → leads_within m n i own ≡ true) → next_of (remove m k) j ≡ o
    → option_map_or (λ i. leads_within (remove m k) n i own) o false ≡ true → option_map_or (λ i. leads_within m n i own) (next_of m j) false ≡ true
more_step m k n j own None again is e = absurd (both_ways false refl e)
more_step m k n j own (Some i) again is e = ap (λ o. option_map_or (λ i. leads_within m n i own) o false) (kept_next m k j i is) ∙ again i e

more : (m : FinMap nat_cmp Construction) (k n j own : ℕ) → leads_within (remove m k) n j own ≡ true → leads_within m n j own ≡ true
more m k zero j own e = e
more m k (suc n) j own e =
    elim (nat_eq j own) as (λ b. (b || option_map_or (λ i. leads_within (remove m k) n i own) (next_of (remove m k) j) false) ≡ true
    → (b || option_map_or (λ i. leads_within m n i own) (next_of m j) false) ≡ true) [
      | true ↦ λ e. refl
      | false ↦ λ e. more_step m k n j own (next_of (remove m k) j) (λ i. more m k n i own) refl e
    ] e

one_is_there : (m : FinMap nat_cmp Construction) (k j : ℕ) → next_of m k ≡ Some j → contains_key m k ≡ true
one_is_there m k j is =
    elim (get m k) as (λ o. option_and_then waited_key o ≡ Some j → is_some o ≡ true) [ None ↦ λ e. absurd (cc) | Some c ↦ λ e. refl ] is

fewer : (m : FinMap nat_cmp Construction) (k j n : ℕ) → next_of m k ≡ Some j → len m ≤ suc n → len (remove m k) ≤ n
fewer m k j n is h =
    let e : len (remove m k) ≡ len m - 1 = len-remove nat_cmp_total m k ∙ ap (λ b. cond b (len m - 1) (len m)) (one_is_there m k j is) in
    omega (arith, e, h)

none_left : (m : FinMap nat_cmp Construction) (k j : ℕ) → len m ≤ 0 → next_of m k ≡ Some j → ⊥
none_left m k j h is =
    let none : next_of m k ≡ None = ap (λ x. next_of x k) (empty_of_len m (omega arith)) ∙ ap (option_and_then waited_key) (get-empty nat_cmp k) in cc

whichever : (m : FinMap nat_cmp Construction) (k j own : ℕ) → LeadsIn (remove m k) j own ⊎ LeadsIn (remove m k) j own → LeadsIn (remove m k) j own
whichever m k j own (inl h) = h
whichever m k j own (inr h) = h

pub walk_complete : (n : ℕ) (m : FinMap nat_cmp Construction) → len m ≤ n → (k own : ℕ) → LeadsIn m k own → leads_within m n k own ≡ true
walk_complete zero m h k own (at_own i) = eq-eqb i i refl
walk_complete zero m h k own (by_next k' j next rest) = absurd (none_left m k j h next)
walk_complete (suc n) m h k own (at_own i) = ap (λ b. b || option_map_or (λ j. leads_within m n j i) (next_of m i) false) (eq-eqb i i refl)
walk_complete (suc n) m h k own (by_next k' j next rest) =
    let there : LeadsIn (remove m k) j own = whichever m k j own (cut m k j next j own rest) in
    let found : leads_within m n j own ≡ true = more m k n j own (walk_complete n (remove m k) (fewer m k j n next h) j own there) in
    elim (nat_eq k own) as (λ b. (b || option_map_or (λ i. leads_within m n i own) (next_of m k) false) ≡ true) [
      | true ↦ refl
      | false ↦ ap (λ o. option_map_or (λ i. leads_within m n i own) o false) next ∙ found
    ]

pub walk_says : (m : FinMap nat_cmp Construction) (k own : ℕ) (b : Bool) → b ≡ leads_within m (len m) k own → Says b (LeadsIn m k own)
walk_says m k own true is = walk_sound m (len m) k own (sym is)
walk_says m k own false is = λ leads. both_ways _ (sym is) (walk_complete (len m) m (omega arith) k own leads)

-- one step of the walk
pub walked : (m : FinMap nat_cmp Construction) (n left k own j : ℕ) (r : Bool) → n ≡ suc left → (k ≡ own → ⊥) → Some j ≡ next_of m k
    → leads_within m n k own ≡ r → leads_within m left j own ≡ r
walked m n left k own j r e other is h =
    ap (λ o. option_map_or (λ i. leads_within m left i own) o false) is
    ∙ sym (ap (λ b. b || option_map_or (λ i. leads_within m left i own) (next_of m k) false) (ne_eqb k own other))
    ∙ sym (ap (λ x. leads_within m x k own) e) ∙ h

-- ---- the walk over the sessions

-- a handler's wait is the one that its construction shows
next_is : (a : Sessions) (k : ℕ) → next_key a k ≡ next_of a.constructions k
next_is a k =
    elim (map.get a.constructions k) as (λ o. option_map (λ w. w.key) (option_and_then (λ s. s.wait) (option_and_then (λ c. handler_in c.stage) o))
    ≡ option_and_then waited_key o) [ None ↦ refl | Some c ↦ refl ]

to_own : (a : Sessions) (k own : ℕ) → LeadsIn a.constructions k own → Leads a k (Handler own)
to_own a k own (at_own j) = its_own j
to_own a k own (by_next k' j is rest) = further k' j (next_is a k' ∙ is) (to_own a j own rest)

-- what distinguishes a session
own_of : SessionId → ℕ
own_of (Client n) = 0
own_of (Handler k) = k

IsHandler : SessionId → Type 0
IsHandler (Client n) = ⊥
IsHandler (Handler k) = Unit {0}

from_own : (a : Sessions) (k : ℕ) (s : SessionId) → Leads a k s → IsHandler s × LeadsIn a.constructions k (own_of s)
unfolding IsHandler own_of
from_own a k s (its_own j) = (tt, at_own j)
from_own a k s (further k' j is rest) = let more = from_own a j s rest in (more.0, by_next k' j (sym (next_is a k') ∙ is) more.1)

-- no walk leads to a client
pub no_client : (a : Sessions) (k n : ℕ) → ¬ (Leads a k (Client n))
unfolding IsHandler
no_client a k n h = (from_own a k (Client n) h).0

-- a walk of as many steps as there are constructions says whether k leads to the handler of own
pub walk_tells : (a : Sessions) (k own : ℕ) (b : Bool) → b ≡ leads_within a.constructions (len a.constructions) k own → Says b (Leads a k (Handler own))
unfolding own_of
walk_tells a k own true is = to_own a k own (walk_says a.constructions k own true is)
walk_tells a k own false is = λ leads. walk_says a.constructions k own false is (from_own a k (Handler own) leads).1
