-- How many entries of a map pass a test, through each change of the map.
use Rattle.rk_table.proofs.Words.{◌∙◌, ap, sym, ◌≡◌, cond, ℕ, refl, true, false, arith, Bool, ◌+◌, inl, inr, ◌-◌, cases_eq, nat_cmp_total, option_map_or}
use Rattle.rk_table.proofs.Words.{nat_cmp, Some, None, Option, is_some, changed_at, kept_where}
use Rattle.std.specs.FinMap as map
use Rattle.rk_table.proofs.Gets.{get_kept_where, none_kept, at_new, at_other, left_in, taken_out}

module _ {V : Type 0} where
  -- an entry put in twice, or where it was
  pub put_back : (m : map.FinMap nat_cmp V) (k : ℕ) (v : V) → map.insert m k v ≡ map.insert (map.remove m k) k v
  put_back m k v = map.same_map nat_cmp_total map.nat_cmp-IsAntisymmetric _ _ (λ q. elim (cases_eq q k) [
    | inl e ↦ at_new m k v q e ∙ sym (at_new (map.remove m k) k v q e)
    | inr ne ↦ at_other m k v q ne ∙ sym (at_other (map.remove m k) k v q ne ∙ left_in m k q ne)
  ])

  -- inserting what is there leaves the map
  pub was_there : (m : map.FinMap nat_cmp V) (k : ℕ) (v : V) → map.get m k ≡ Some v → m ≡ map.insert m k v
  was_there m k v is = map.same_map nat_cmp_total map.nat_cmp-IsAntisymmetric _ _ (λ q. elim (cases_eq q k) [
    | inl e ↦ ap (map.get m) e ∙ is ∙ sym (at_new m k v q e)
    | inr ne ↦ sym (at_other m k v q ne)
  ])

  pub not_there : (m : map.FinMap nat_cmp V) (k : ℕ) → map.get m k ≡ None → map.remove m k ≡ m
  not_there m k none = map.same_map nat_cmp_total map.nat_cmp-IsAntisymmetric _ _ (λ q. elim (cases_eq q k) [
    | inl e ↦ taken_out m k q e ∙ sym (ap (map.get m) e ∙ none)
    | inr ne ↦ left_in m k q ne
  ])

  put_if : (b : Bool) (m : map.FinMap nat_cmp V) (k : ℕ) (v : V) (q : ℕ) → map.get m k ≡ None → q ≡ k → cond b (Some v) None ≡ map.get (cond b (map.insert m k v) m) q
  put_if true m k v q none e = sym (at_new m k v q e)
  put_if false m k v q none e = sym (ap (map.get m) e ∙ none)

  same_if : (b : Bool) (m : map.FinMap nat_cmp V) (k : ℕ) (v : V) (q : ℕ) → (q ≡ k → ⊥) → map.get m q ≡ map.get (cond b (map.insert m k v) m) q
  same_if true m k v q ne = sym (at_other m k v q ne)
  same_if false m k v q ne = refl

  len-put_if : (b : Bool) (m : map.FinMap nat_cmp V) (k : ℕ) (v : V) → map.get m k ≡ None → map.len (cond b (map.insert m k v) m) ≡ cond b (map.len m + 1) (map.len m)
  len-put_if true m k v none = map.len-insert nat_cmp_total m k v ∙ ap (λ o. cond (is_some o) (map.len m) (map.len m + 1)) none
  len-put_if false m k v none = refl

  module _ (p : ℕ → V → Bool) where
    kept_where-insert : (m : map.FinMap nat_cmp V) (k : ℕ) (v : V) → map.get m k ≡ None → kept_where p (map.insert m k v) ≡ cond (p k v) (map.insert (kept_where p m) k v) (kept_where p m)
    kept_where-insert m k v none = map.same_map nat_cmp_total map.nat_cmp-IsAntisymmetric _ _ (λ q.
        get_kept_where p (map.insert m k v) q
        ∙ elim (cases_eq q k) [
          | inl e ↦
              ap (λ (o : Option V). cond (option_map_or (p q) o false) o None) (at_new m k v q e)
              ∙ ap (λ n. cond (p n v) (Some v) None) e ∙ put_if (p k v) (kept_where p m) k v q (none_kept p m k none) e
          | inr ne ↦
              ap (λ (o : Option V). cond (option_map_or (p q) o false) o None) (at_other m k v q ne)
              ∙ sym (get_kept_where p m q) ∙ same_if (p k v) (kept_where p m) k v q ne
        ])

    -- how many entries pass
    abbrev pub kept_len : map.FinMap nat_cmp V → ℕ
    kept_len m = map.len (kept_where p m)

    -- no entry of the empty map passes
    pub kept_len-empty : kept_len map.empty ≡ 0
    kept_len-empty =
        ap map.len (map.same_map nat_cmp_total map.nat_cmp-IsAntisymmetric (kept_where p map.empty) map.empty (λ q. none_kept p map.empty q (map.get-empty nat_cmp q) ∙ sym (map.get-empty nat_cmp q)))
        ∙ map.len-empty nat_cmp V

    -- a new entry
    pub kept_len-insert : (m : map.FinMap nat_cmp V) (k : ℕ) (v : V) → map.get m k ≡ None → kept_len (map.insert m k v) ≡ cond (p k v) (kept_len m + 1) (kept_len m)
    kept_len-insert m k v none = ap map.len (kept_where-insert m k v none) ∙ len-put_if (p k v) (kept_where p m) k v (none_kept p m k none)

    -- an entry in the place of another, or where none was
    pub kept_len-put : (m : map.FinMap nat_cmp V) (k : ℕ) (v : V) → kept_len (map.insert m k v) ≡ cond (p k v) (kept_len (map.remove m k) + 1) (kept_len (map.remove m k))
    kept_len-put m k v = ap kept_len (put_back m k v) ∙ kept_len-insert (map.remove m k) k v (taken_out m k k refl)

    one_fewer : (b : Bool) (n m : ℕ) → n ≡ cond b (m + 1) m → m ≡ cond b (n - 1) n
    one_fewer true n m e = omega arith
    one_fewer false n m e = sym e

    -- an entry taken out
    pub kept_len-remove : (m : map.FinMap nat_cmp V) (k : ℕ) (v : V) → map.get m k ≡ Some v → kept_len (map.remove m k) ≡ cond (p k v) (kept_len m - 1) (kept_len m)
    kept_len-remove m k v is = one_fewer (p k v) (kept_len m) _ (ap kept_len (was_there m k v is) ∙ kept_len-put m k v)

    -- removing a key that is not there leaves how many entries pass
    pub kept_len-remove_none : (m : map.FinMap nat_cmp V) (k : ℕ) → map.get m k ≡ None → kept_len (map.remove m k) ≡ kept_len m
    kept_len-remove_none m k none = ap kept_len (not_there m k none)

    -- an entry changed in its place
    pub kept_len-changed : (m : map.FinMap nat_cmp V) (k : ℕ) (f : V → V) (v : V) → map.get m k ≡ Some v
        → kept_len (changed_at k f m) + cond (p k v) 1 0 ≡ kept_len m + cond (p k (f v)) 1 0
    kept_len-changed m k f v is =
        let new = ap (λ o. kept_len (option_map_or (λ v. map.insert m k (f v)) o m)) is ∙ kept_len-put m k (f v) in
        let old = ap kept_len (was_there m k v is) ∙ kept_len-put m k v in
        by_tests (p k v) (p k (f v)) _ _ _ new old
      where
        by_tests : (a b : Bool) (x y z : ℕ) → x ≡ cond b (z + 1) z → y ≡ cond a (z + 1) z → x + cond a 1 0 ≡ y + cond b 1 0
        by_tests true true x y z d e = omega (arith, d, e)
        by_tests true false x y z d e = omega (arith, d, e)
        by_tests false true x y z d e = omega (arith, d, e)
        by_tests false false x y z d e = omega (arith, d, e)
