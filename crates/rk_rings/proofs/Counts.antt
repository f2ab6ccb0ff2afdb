-- How many entries a map has, by its keys.
use Rattle.rk_rings.proofs.Words.{◌∙◌, ap, sym, ◌≡◌, arith, ℕ, cond, ◌≤◌, false, ◌+◌, refl, true, Bool, ◌-◌, not, length, ◌<◌, List, [], ◌∷◌, ◌&&◌, zero, suc}
use Rattle.rk_rings.proofs.Words.{both_ways, and_from, nat_cmp_total, get, len, remove, FinMap, contains_key, len-remove, entries, find, get-entries}
use Rattle.rk_rings.proofs.Words.{len-entries, get-remove, nat_cmp, eq_by_cmp, None, Some, is_some, Option, map_not_empty}
use Rattle.rk_rings.proofs.Finds.{tied, tied_itself}

both_kept : (t x y : Bool) → (x ≡ true → y ≡ true) → (not t && x) ≡ true → (not t && y) ≡ true
both_kept true x y h is = is
both_kept false x y h is = h is

module _ {X : Type 0} where
  head_there : (es : List (ℕ × X)) → 0 < length es → (q : ℕ) × (is_some (find nat_cmp q es) ≡ true)
  head_there [] h = absurd (omega arith)
  head_there (e ∷ es) h = (e.0, ap (λ b. is_some (cond b (Some e.1) (find nat_cmp e.0 es))) (tied_itself e.0))

  -- a map that is not empty has a key
  pub some_key : (m : FinMap nat_cmp X) → 0 < len m → (q : ℕ) × (contains_key m q ≡ true)
  some_key m h =
      let at = head_there (entries m) (omega (arith, h, len-entries m)) in
      (at.0, ap is_some (get-entries m at.0) ∙ at.1)

  -- a map with a key is not empty
  pub has_some : (m : FinMap nat_cmp X) (q : ℕ) → contains_key m q ≡ true → 0 < len m
  has_some m q h = map_not_empty m q (len m) h refl

  -- removing a key that is there leaves one entry less
  pub one_less : (m : FinMap nat_cmp X) (q : ℕ) → contains_key m q ≡ true → len (remove m q) + 1 ≡ len m
  one_less m q h =
      let e : len (remove m q) ≡ len m - 1 = len-remove nat_cmp_total m q ∙ ap (λ b. cond b (len m - 1) (len m)) h in
      omega (arith, e, has_some m q h)

  some_unless : (b : Bool) (o : Option X) → is_some (cond b None o) ≡ (not b && is_some o)
  some_unless true o = refl
  some_unless false o = refl

  -- after a key is removed every other is there as before
  pub contains_key-remove : (m : FinMap nat_cmp X) (k q : ℕ) → contains_key (remove m k) q ≡ (not (eq_by_cmp nat_cmp q k) && contains_key m q)
  contains_key-remove m k q = ap is_some (get-remove nat_cmp_total m k q) ∙ some_unless (eq_by_cmp nat_cmp q k) (get m q)

  abbrev pub IsWithin : FinMap nat_cmp X → FinMap nat_cmp X → Type 0
  IsWithin a b = (q : ℕ) → contains_key a q ≡ true → contains_key b q ≡ true

  without : (a b : FinMap nat_cmp X) (k : ℕ) → IsWithin a b → IsWithin (remove a k) (remove b k)
  without a b k h q is =
      contains_key-remove b k q ∙ both_kept (eq_by_cmp nat_cmp q k) (contains_key a q) (contains_key b q) (h q) (sym (contains_key-remove a k q) ∙ is)

  fewer_by : (n : ℕ) (a b : FinMap nat_cmp X) → len a ≡ n → IsWithin a b → n ≤ len b
  fewer_by zero a b e h = omega arith
  fewer_by (suc n) a b e h =
      let k = some_key a (omega (arith, e)) in
      let rest : n ≤ len (remove b k.0) = fewer_by n (remove a k.0) (remove b k.0) (omega (arith, one_less a k.0 k.1, e)) (without a b k.0 h) in
      omega (arith, rest, one_less b k.0 (h k.0 k.1))

  -- a map whose keys another has has no more entries
  pub no_more : (a b : FinMap nat_cmp X) → IsWithin a b → len a ≤ len b
  no_more a b h = fewer_by (len a) a b refl h

  apart : (q k : ℕ) (a : FinMap nat_cmp X) → contains_key a k ≡ false → contains_key a q ≡ true → not (eq_by_cmp nat_cmp q k) ≡ true
  apart q k a lacks has =
      elim (eq_by_cmp nat_cmp q k) as (λ b. eq_by_cmp nat_cmp q k ≡ b → not b ≡ true) [
        | true ↦ λ t. absurd (both_ways _ lacks (ap (contains_key a) (sym (tied q k t)) ∙ has))
        | false ↦ λ t. refl
      ] refl

  -- and fewer, where it lacks one of them
  pub fewer : (a b : FinMap nat_cmp X) (k : ℕ) → IsWithin a b → contains_key a k ≡ false → contains_key b k ≡ true → len a < len b
  fewer a b k h lacks has =
      let le : len a ≤ len (remove b k) = no_more a (remove b k) (λ q is. contains_key-remove b k q ∙ and_from _ _ (apart q k a lacks is) (h q is)) in
      omega (arith, le, one_less b k has)
