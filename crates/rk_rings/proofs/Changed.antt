-- All rings, after one of them has changed.
use Rattle.rk_rings.proofs.Words.{◌∙◌, ap, sym, ◌≡◌, subst, arith, ℕ, cond, ◌≤◌, false, ◌+◌, refl, true, Bool, ◌-◌, lit≤, nat_cmp_total, get, len, insert}
use Rattle.rk_rings.proofs.Words.{remove, empty, FinMap, contains_key, get-empty, len-remove, len-insert, len-empty, get-remove, option_map_or, option_map}
use Rattle.rk_rings.proofs.Words.{nat_cmp, eq_by_cmp, None, Some, nat_eq, is_some, Option, MatchOption, get_changed_at, contains_key_changed_at, FindsEntry}
use Rattle.rk_rings.proofs.Words.{changed_at, AreSerials, Numbered, Rings, HasEachNameOnce, HaveEachNameOnce, IsMatch}
use Rattle.rk_rings.proofs.Finds.{no_entry}
use Rattle.rk_rings.proofs.Links.{serials_within, serials-remove, serials-empty}

module _ {X : Type 0} where
  -- a change at one key leaves how many there are
  pub len-changed_at : (k : ℕ) (f : X → X) (m : FinMap nat_cmp X) → len (changed_at k f m) ≡ len m
  len-changed_at k f m =
      elim (get m k) as (λ o. get m k ≡ o → len (option_map_or (λ v. insert m k (f v)) o m) ≡ len m) [
        | None ↦ λ e. refl
        | Some v ↦ λ e. len-insert nat_cmp_total m k (f v) ∙ ap (λ o. cond (is_some o) (len m) (len m + 1)) e
      ] refl

  -- what a search by a test of values finds
  pub by_test : (p : X → Bool) (m : FinMap nat_cmp X) (o : Option ℕ) → FindsEntry (λ k v. p v) m o
      → MatchOption o ((k : ℕ) (v : X) → get m k ≡ Some v → p v ≡ false) (λ k. option_map_or p (get m k) false ≡ true)
  by_test p m None h = λ k v there. elim (p v) as (λ b. p v ≡ b →
      b ≡ false) [ true ↦ λ e. absurd (no_entry (λ (e : ℕ × X). p e.1) m k v h there e) | false ↦ λ e. refl ] refl
  by_test p m (Some k) h = h.0

-- at most 1,024 rings, at serials, each of which has each name once
abbrev pub AreRows : Rings → Type 0
AreRows m = (len m ≤ 1024) × AreSerials m × HaveEachNameOnce m

-- a change that leaves each name once
abbrev pub KeepsOnce : (Numbered → Numbered) → Type 0
KeepsOnce f = (r : Numbered) → HasEachNameOnce r.links → HasEachNameOnce (f r).links

once-changed_at : (k : ℕ) (f : Numbered → Numbered) (m : Rings) → KeepsOnce f → HaveEachNameOnce m → HaveEachNameOnce (changed_at k f m)
once-changed_at k f m fair once q r there = by_ring (nat_eq k q) (get m q) refl (sym (get_changed_at k f m q) ∙ there)
  where
    by_ring : (b : Bool) (o : Option Numbered) → get m q ≡ o → cond b (option_map f o) o ≡ Some r → HasEachNameOnce r.links
    by_ring false o is e = once q r (is ∙ e)
    by_ring true None is e = absurd (cc)
    by_ring true (Some old) is e =
        let same : f old ≡ r = cc in
        subst (λ (x : Numbered). HasEachNameOnce x.links) same (fair old (once q old is))

-- rings stay in form where one is changed and keeps each name once
pub rows-changed_at : (k : ℕ) (f : Numbered → Numbered) (m n : Rings) → n ≡ changed_at k f m → KeepsOnce f → AreRows m → AreRows n
rows-changed_at k f m n is fair h =
    subst AreRows (sym is) (
      subst (λ x. x ≤ 1024) (sym (len-changed_at k f m)) h.0,
      serials_within (changed_at k f m) m (λ q there. sym (contains_key_changed_at k f m q) ∙ there) h.1,
      once-changed_at k f m fair h.2,
    )

fewer_or_same : (b : Bool) (n : ℕ) → cond b (n - 1) n ≤ n
fewer_or_same true n = omega arith
fewer_or_same false n = omega arith

-- a ring that is left was there
pub ring_there : (m : Rings) (k q : ℕ) (r : Numbered) → get (remove m k) q ≡ Some r → get m q ≡ Some r
ring_there m k q r e = by_key (eq_by_cmp nat_cmp q k) (sym (get-remove nat_cmp_total m k q) ∙ e)
  where
    by_key : (b : Bool) → cond b None (get m q) ≡ Some r → get m q ≡ Some r
    by_key true e = absurd (cc)
    by_key false e = e

-- rings stay in form where one is removed
pub rows-remove : (k : ℕ) (m n : Rings) → n ≡ remove m k → AreRows m → AreRows n
rows-remove k m n is h =
    let le : len (remove m k) ≤ len m = subst (λ x. x ≤ len m) (sym (len-remove nat_cmp_total m k)) (fewer_or_same (contains_key m k) (len m)) in
    subst AreRows (sym is) (omega (arith, le, h.0), serials-remove m k h.1, λ q r there. h.2 q r (ring_there m k q r there))

-- an empty map of rings is in form
pub rows-empty : (m : Rings) → m ≡ empty → AreRows m
rows-empty m is =
    subst AreRows (sym is) (
      subst (λ x. x ≤ 1024) (sym (len-empty nat_cmp Numbered)) (lit≤ tt),
      serials-empty Numbered,
      λ q r there. let none : None ≡ Some r = sym (get-empty nat_cmp q) ∙ there in absurd (cc),
    )

-- what a search of a ring's links finds by the number of a name is the one key of that name
pub match_found : (rings : Rings) (ring n : ℕ) (row : Numbered) (o : Option ℕ) → get rings ring ≡ Some row → HasEachNameOnce row.links
    → MatchOption o ((k : ℕ) → ¬ (get row.links k ≡ Some n)) (λ k. get row.links k ≡ Some n) → IsMatch rings n (Some ring) o
match_found rings ring n row None is once h = λ r there k. let same : r ≡ row = cc in subst (λ x. ¬ (get x.links k ≡ Some n)) (sym same) (h k)
match_found rings ring n row (Some k) is once h = (row, is, h, λ j link. once j k n link h)
