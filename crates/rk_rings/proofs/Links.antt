-- The links of one ring.
use Rattle.rk_rings.proofs.Words.{◌∙◌, ap, sym, ◌≡◌, subst, arith, ℕ, cond, ◌≤◌, false, ◌+◌, refl, true, Bool, not, ◌<◌, ◌&&◌, ltb, leb, both_ways, eq-eqb}
use Rattle.rk_rings.proofs.Words.{ne_eqb, le-ltb, leb-false, not-false, nat_cmp_total, get, len, insert, remove, empty, FinMap, contains_key, get-empty}
use Rattle.rk_rings.proofs.Words.{same_map, nat_cmp-IsAntisymmetric, values, get-insert, list_any, option_map_or, nat_cmp, eq_by_cmp, None, Some, nat_eq}
use Rattle.rk_rings.proofs.Words.{is_some, Option, MatchOption, get_kept_where, FindsEntry, kept_where, serial_of, AreSerials, Numbered, is_full, has_number}
use Rattle.rk_rings.proofs.Finds.{tied, no_entry, entry_found, any_value}
use Rattle.rk_rings.proofs.Counts.{IsWithin, contains_key-remove, no_more, fewer}

if_some : {A : Type 0} (t : A → Bool) (o : Option A) → is_some (cond (option_map_or t o false) o None) ≡ true → is_some o ≡ true
if_some t None h = h
if_some t (Some x) h = refl

not_kept : {A : Type 0} (t : A → Bool) (o : Option A) (x : A) → o ≡ Some x → t x ≡ false → is_some (cond (option_map_or t o false) o None) ≡ false
not_kept t o x is fails = ap (λ (o : Option _). is_some (cond (option_map_or t o false) o None)) is ∙ ap (λ b. is_some (cond b (Some x) None)) fails

second_true : (a b : Bool) → (not a && b) ≡ true → b ≡ true
second_true true b h = absurd (both_ways false refl h)
second_true false b h = h

module _ {X : Type 0} where
  -- the entries that pass a test are within the map
  pub kept_within : (p : ℕ → X → Bool) (m : FinMap nat_cmp X) → IsWithin (kept_where p m) m
  kept_within p m q h = if_some (p q) (get m q) (ap is_some (sym (get_kept_where p m q)) ∙ h)

  pub rest_within : (m : FinMap nat_cmp X) (k : ℕ) → IsWithin (remove m k) m
  rest_within m k q h = second_true _ _ (sym (contains_key-remove m k q) ∙ h)

  -- an entry that does not pass is one that goes
  pub fewer_kept : (p : ℕ → X → Bool) (m : FinMap nat_cmp X) (k : ℕ) (v : X) → get m k ≡ Some v → p k v ≡ false → len (kept_where p m) < len m
  fewer_kept p m k v there fails =
      fewer (kept_where p m) m k (kept_within p m) (ap is_some (get_kept_where p m k) ∙ not_kept (p k) (get m k) v there fails) (ap is_some there)

  -- ---- numbers that are serials

  -- a map within one of serials is one of serials
  pub serials_within : (a b : FinMap nat_cmp X) → IsWithin a b → AreSerials b → AreSerials a
  serials_within a b h all k is = all k (h k is)

  -- keys are serials after one is removed
  pub serials-remove : (m : FinMap nat_cmp X) (k : ℕ) → AreSerials m → AreSerials (remove m k)
  serials-remove m k all = serials_within (remove m k) m (rest_within m k) all

  -- keys are serials after a serial is inserted
  pub serials-insert : (m : FinMap nat_cmp X) (k : ℕ) (v : X) → AreSerials m → serial_of k ≡ Some k → AreSerials (insert m k v)
  serials-insert m k v all here q h =
      elim (eq_by_cmp nat_cmp q k) as (λ b. eq_by_cmp nat_cmp q k ≡ b → is_some (cond b (Some v) (get m q)) ≡ true → serial_of q ≡ Some q) [
        | true ↦ λ t _. subst (λ n. serial_of n ≡ Some n) (sym (tied q k t)) here
        | false ↦ λ t h. all q h
      ] refl (ap is_some (sym (get-insert nat_cmp_total m k v q)) ∙ h)

-- all keys of the empty map are serials
pub serials-empty : (X : Type 0) → AreSerials (empty {X = X} {R = nat_cmp})
serials-empty X k h = absurd (both_ways _ (ap is_some (get-empty nat_cmp k)) h)

-- numbers from 1 to 2,147,483,647 are serials
pub is_serial : (k : ℕ) → 1 ≤ k → k ≤ 2147483647 → serial_of k ≡ Some k
is_serial k low high =
    ap (λ b. cond b None (cond (ltb 2147483647 k) None (Some k))) (ne_eqb k 0 (λ e. absurd (omega (arith, e, low))))
    ∙ ap (λ b. cond b None (Some k)) (le-ltb 2147483647 k high)

-- ---- what is found by the number of its name

-- a search that passes any entry finds a key, or there is none
pub any_key : (m : FinMap nat_cmp ℕ) (o : Option ℕ) → FindsEntry (λ k v. true) m o →
    MatchOption o ((k : ℕ) → contains_key m k ≡ false) (λ k. contains_key m k ≡ true)
any_key m None h = λ k.
    elim (get m k) as (λ o. get m k ≡ o → is_some o ≡ false) [ None ↦ λ e. refl | Some v ↦ λ e. absurd (no_entry (λ (e : ℕ × ℕ). true) m k v h e refl) ] refl
any_key m (Some k) h =
    elim (get m k) as (λ o. option_map_or (λ v. true) o false ≡ true → is_some o ≡ true) [ None ↦ λ e. e | Some v ↦ λ e. refl ] h.0

-- ---- a new link

pub fewer_rivals : (links : FinMap nat_cmp ℕ) (n : ℕ) → list_any (λ m. nat_eq m n) (values links) ≡ true →
    len (kept_where (λ j m. not (nat_eq m n)) links) < len links
fewer_rivals links n h =
    let at = entry_found (λ (e : ℕ × ℕ). nat_eq e.1 n) links (sym (any_value (λ m. nat_eq m n) links) ∙ h) in
    fewer_kept (λ j m. not (nat_eq m n)) links at.0 at.1 at.2 (ap not at.3)

-- if a ring is not full for a name, the rivals leave room
pub room_left : (r : Numbered) (n kept room : ℕ) → is_full (Some n) r ≡ false → len r.links ≤ 256 → kept ≡ len (kept_where (λ j m. not (nat_eq m n)) r.links) →
    kept + room ≡ 256 → 0 < room
room_left r n kept room h most is sum =
    elim (leb 256 (len r.links)) as (λ b. leb 256 (len r.links) ≡ b → (b && not (has_number r n)) ≡ false → 0 < room) [
      | true ↦ λ e h. omega (arith, fewer_rivals r.links n (not-false _ h), most, is, sum)
      | false ↦ λ e h. omega (arith, no_more _ _ (kept_within (λ j m. not (nat_eq m n)) r.links), leb-false 256 (len r.links) e, is, sum)
    ] refl h

-- a key that is not linked is not linked once others have gone
pub still_new : (p : ℕ → ℕ → Bool) (links : FinMap nat_cmp ℕ) (k : ℕ) → contains_key links k ≡ false → get (kept_where p links) k ≡ None
still_new p links k h =
    elim (get (kept_where p links) k) as (λ o. get (kept_where p links) k ≡ o → o ≡ None) [
      | None ↦ λ e. refl
      | Some v ↦ λ e. absurd (both_ways _ h (kept_within p links k (ap is_some e)))
    ] refl

-- a walk over the links finds no key of a name if there is none
pub walked_none : (m : FinMap nat_cmp ℕ) (n : ℕ) → FindsEntry (λ k v. nat_eq v n) m None → (k : ℕ) → ¬ (get m k ≡ Some n)
walked_none m n h k there = no_entry (λ (e : ℕ × ℕ). nat_eq e.1 n) m k n h there (eq-eqb n n refl)

-- no link is left where none passes
pub none_passes : (m : FinMap nat_cmp ℕ) → kept_where (λ k n. false) m ≡ empty
none_passes m = same_map nat_cmp_total nat_cmp-IsAntisymmetric _ _ (λ q.
    get_kept_where (λ k n. false) m q ∙ gone (get m q) ∙ sym (get-empty nat_cmp q))
  where
    gone : (o : Option ℕ) → cond (option_map_or (λ n. false) o false) o None ≡ None
    gone None = refl
    gone (Some n) = refl
