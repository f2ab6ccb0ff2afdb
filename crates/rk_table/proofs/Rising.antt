-- Entries whose keys rise.
use Rattle.rk_table.proofs.Words.{◌≡◌, cond, subst, ℕ, true, false, arith, ◌<◌, Bool, List, [], ◌∷◌, length, get_or, zero, suc, ◌≢◌, filter, list_map, KeysRise}
use Rattle.rk_table.proofs.Words.{IsGapFor, AreAbove, ap, Some, ◌-◌, inl, inr, cases_lt}
use Rattle.std.specs.List.{insert, slice_get}
use Rattle.std.proofs.lemmas.Option.{get_or_from_slice_get}

module _ {X : Type 0} where
  -- ---- place by place
  above_at : (k : ℕ) (es : List (ℕ × X)) → AreAbove k es → (j : ℕ) (d : ℕ × X) → j < length es → k < (get_or es j d).0
  above_at k [] h j d lt = absurd (omega arith)
  above_at k (e ∷ es) h zero d lt = h.0
  above_at k (e ∷ es) h (suc j) d lt = above_at k es h.1 j d (omega arith)

  above_from : (k : ℕ) (es : List (ℕ × X)) → ((j : ℕ) (d : ℕ × X) → j < length es → k < (get_or es j d).0) → AreAbove k es
  above_from k [] h = tt
  above_from k (e ∷ es) h = (h 0 e (omega arith), above_from k es (λ j d lt. h (suc j) d (omega arith)))

  -- where keys rise, the key at an earlier place is less than that at a later one
  pub rising_at : (es : List (ℕ × X)) → KeysRise es → (i j : ℕ) (d : ℕ × X) → i < j → j < length es → (get_or es i d).0 < (get_or es j d).0
  rising_at [] h i j d lt within = absurd (omega arith)
  rising_at (e ∷ es) h i zero d lt within = absurd (omega arith)
  rising_at (e ∷ es) h zero (suc j) d lt within = above_at e.0 es h.0 j d (omega arith)
  rising_at (e ∷ es) h (suc i) (suc j) d lt within = rising_at es h.1 i j d (omega arith) (omega arith)

  -- a key is at no place of entries whose keys are above it
  pub not_in_above : (k : ℕ) (es : List (ℕ × X)) → AreAbove k es → (j : ℕ) (d : ℕ × X) → j < length es → (get_or es j d).0 ≢ k
  not_in_above k es h j d lt same = omega (arith, same, above_at k es h j d lt)

  -- a key above the last one fits into the gap at the end
  pub past_all : (es : List (ℕ × X)) (k : ℕ) (e : ℕ × X) → KeysRise es → slice_get es (length es - 1) ≡ Some e → e.0 < k → IsGapFor es k (length es)
  past_all es k e h is lt = record {
    in_range = omega arith;
    before = λ j d below. elim (cases_lt j (length es - 1)) [
      | inl earlier ↦ omega (arith, rising_at es h j (length es - 1) d earlier (omega (arith, below)), last d, lt)
      | inr late ↦
          let same : j ≡ length es - 1 = omega (arith, below, late) in
          omega (arith, ap (λ n. (get_or es n d).0) same, last d, lt)
    ];
    from = λ j d le within. absurd (omega (arith, le, within));
  } where
    last : (d : ℕ × X) → (get_or es (length es - 1) d).0 ≡ e.0
    last d = ap (λ x. x.0) (get_or_from_slice_get es (length es - 1) e d is)

  -- ---- what keeps the order
  above_filtered : (p : ℕ × X → Bool) (k : ℕ) (es : List (ℕ × X)) → AreAbove k es → AreAbove k (filter p es)
  above_filtered p k [] h = tt
  above_filtered p k (e ∷ es) h =
      elim (p e) as (λ b. AreAbove k (cond b (e ∷ filter p es) (filter p es))) [ true ↦ (h.0, above_filtered p k es h.1) | false ↦ above_filtered p k es h.1 ]

  -- keys that rise still rise where entries are dropped
  pub rising_filtered : (p : ℕ × X → Bool) (es : List (ℕ × X)) → KeysRise es → KeysRise (filter p es)
  rising_filtered p [] h = tt
  rising_filtered p (e ∷ es) h =
      elim (p e) as (λ b. KeysRise (cond b (e ∷ filter p es) (filter p es))) [ true ↦ (above_filtered p e.0 es h.0, rising_filtered p es h.1) | false ↦ rising_filtered p es h.1 ]

  -- the keys alone decide
  above_by_keys : (k : ℕ) (es fs : List (ℕ × X)) → list_map (λ e. e.0) es ≡ list_map (λ e. e.0) fs → AreAbove k es → AreAbove k fs
  above_by_keys k es [] same h = tt
  above_by_keys k [] (f ∷ fs) same h = absurd (cc)
  above_by_keys k (e ∷ es) (f ∷ fs) same h =
      let one : e.0 ≡ f.0 = cc in
      let rest : list_map (λ (x : ℕ × X). x.0) es ≡ list_map (λ (x : ℕ × X). x.0) fs = cc in
      (subst (λ n. k < n) one h.0, above_by_keys k es fs rest h.1)

  -- whether keys rise results from the keys alone
  pub rising_by_keys : (es fs : List (ℕ × X)) → list_map (λ e. e.0) es ≡ list_map (λ e. e.0) fs → KeysRise es → KeysRise fs
  rising_by_keys es [] same h = tt
  rising_by_keys [] (f ∷ fs) same h = absurd (cc)
  rising_by_keys (e ∷ es) (f ∷ fs) same h =
      let one : e.0 ≡ f.0 = cc in
      let rest : list_map (λ (x : ℕ × X). x.0) es ≡ list_map (λ (x : ℕ × X). x.0) fs = cc in
      (subst (λ n. AreAbove n fs) one (above_by_keys e.0 es fs rest h.0), rising_by_keys es fs rest h.1)

  -- ---- a new key in its gap
  above_inserted : (k : ℕ) (es : List (ℕ × X)) (i : ℕ) (e : ℕ × X) → AreAbove k es → k < e.0 → AreAbove k (insert es i e)
  above_inserted k es zero e h lt = (lt, h)
  above_inserted k [] (suc i) e h lt = (lt, tt)
  above_inserted k (x ∷ es) (suc i) e h lt = (h.0, above_inserted k es i e h.1 lt)

  gap_in_tail : (x : ℕ × X) (es : List (ℕ × X)) (k i : ℕ) → IsGapFor (x ∷ es) k (suc i) → IsGapFor es k i
  gap_in_tail x es k i gap = record {
    in_range = omega (arith, gap.in_range);
    before = λ j d lt. gap.before (suc j) d (omega arith);
    from = λ j d le lt. gap.from (suc j) d (omega arith) (omega arith);
  }

  -- keys still rise where an entry is inserted at its gap
  pub rising_inserted : (es : List (ℕ × X)) (i k : ℕ) (v : X) → KeysRise es → IsGapFor es k i → KeysRise (insert es i (k, v))
  rising_inserted es zero k v h gap = (above_from k es (λ j d lt. gap.from j d (omega arith) lt), h)
  rising_inserted [] (suc i) k v h gap = (tt, tt)
  rising_inserted (x ∷ es) (suc i) k v h gap = (
    above_inserted x.0 es i (k, v) h.0 (gap.before 0 x (omega arith)),
    rising_inserted es i k v h.1 (gap_in_tail x es k i gap),
  )
