-- What a search by halves finds among entries whose keys rise, and what an edit at that place does.
use Rattle.rk_table.proofs.Words.{◌∙◌, ap, sym, ◌≡◌, cond, ℕ, refl, true, arith, ◌<◌, List, [], ◌∷◌, length, get_or, inl, inr, zero, suc, not, ◌≢◌, ◌≤◌, set}
use Rattle.rk_table.proofs.Words.{Result, Ok, Err, IfOk, IfErr, eq-eqb, ne_eqb, eqb-true, cases_lt, none-some, nat_cmp_total, FinMap, get}
use Rattle.rk_table.proofs.Words.{nat_cmp-IsAntisymmetric, from_entries, insert, find, same_map, remove, get-insert, insert_at, remove_at, option_map_or}
use Rattle.rk_table.proofs.Words.{nat_cmp, eq_by_cmp, ordering_index, Some, None, nat_eq, filter, KeysRise, IsGapFor, IsAt, changed_at}
use Rattle.std.specs.List.Sorted.{IsSearchInRange, IsBinarySearchResult, IsNonDecreasingBy}
use Rattle.std.proofs.lemmas.Bool.Decides.{nat_tests}
use Rattle.std.proofs.lemmas.Cmp.{ranked}
use Rattle.rk_table.proofs.Entries.{tie, get_in, removed, swap_tests, shadow}
use Rattle.rk_table.proofs.Rising.{rising_at, not_in_above}

module _ {X : Type 0} where
  -- no entry before place i has the key
  abbrev pub NoKeyBefore : List (ℕ × X) → ℕ → ℕ → Type 0
  NoKeyBefore es k i = (j : ℕ) (d : ℕ × X) → j < i → (get_or es j d).0 ≢ k

  not_later : (x : ℕ × X) (es : List (ℕ × X)) (k i : ℕ) → NoKeyBefore (x ∷ es) k (suc i) → NoKeyBefore es k i
  not_later x es k i absent j d lt = absent (suc j) d (omega arith)

  at_later : (x : ℕ × X) (es : List (ℕ × X)) (k i : ℕ) → IsAt (x ∷ es) k (suc i) → IsAt es k i
  at_later x es k i at = record { in_range = omega (arith, at.in_range); has_key = at.has_key }

  -- ---- what is found
  find_later : (q : ℕ) (x : ℕ × X) (es : List (ℕ × X)) → x.0 ≢ q → find nat_cmp q (x ∷ es) ≡ find nat_cmp q es
  find_later q x es other = ap (λ b. cond b (Some x.1) (find nat_cmp q es)) (tie q x.0 ∙ ne_eqb _ _ other)

  -- a key that no entry has is not found
  pub find_none : (k : ℕ) (es : List (ℕ × X)) → NoKeyBefore es k (length es) → find nat_cmp k es ≡ None
  find_none k [] absent = refl
  find_none k (x ∷ es) absent = find_later k x es (absent 0 x (omega arith)) ∙ find_none k es (not_later x es k _ absent)

  pub find_first : (k : ℕ) (es : List (ℕ × X)) (i : ℕ) (d : ℕ × X) → IsAt es k i → NoKeyBefore es k i → find nat_cmp k es ≡ Some (get_or es i d).1
  find_first k [] i d at absent = absurd (omega (arith, at.in_range))
  find_first k (x ∷ es) zero d at absent = ap (λ b. cond b (Some x.1) (find nat_cmp k es)) (tie k x.0 ∙ eq-eqb _ _ (at.has_key x))
  find_first k (x ∷ es) (suc i) d at absent = find_later k x es (absent 0 x (omega arith)) ∙ find_first k es i d (at_later x es k i at) (not_later x es k i absent)

  apart : (q k : ℕ) (x : ℕ × X) → x.0 ≢ k → eq_by_cmp nat_cmp q x.0 ≡ true → eq_by_cmp nat_cmp q k ≡ true → ⊥
  apart q k x other a b = other (eqb-true _ _ (sym (tie q x.0) ∙ a) ∙ sym (eqb-true _ _ (sym (tie q k) ∙ b)))

  find_set : (q k : ℕ) (v : X) (es : List (ℕ × X)) (i : ℕ) → IsAt es k i → NoKeyBefore es k i → find nat_cmp q (set es i (k, v)) ≡ cond (eq_by_cmp nat_cmp q k) (Some v) (find nat_cmp q es)
  find_set q k v [] i at absent = absurd (omega (arith, at.in_range))
  find_set q k v (x ∷ es) zero at absent =
      sym (shadow (eq_by_cmp nat_cmp q k) (Some v) (Some x.1) (find nat_cmp q es))
      ∙ ap (λ n. cond (eq_by_cmp nat_cmp q k) (Some v) (cond (eq_by_cmp nat_cmp q n) (Some x.1) (find nat_cmp q es))) (sym (at.has_key x))
  find_set q k v (x ∷ es) (suc i) at absent =
      ap (cond (eq_by_cmp nat_cmp q x.0) (Some x.1)) (find_set q k v es i (at_later x es k i at) (not_later x es k i absent))
      ∙ swap_tests (eq_by_cmp nat_cmp q x.0) (eq_by_cmp nat_cmp q k) (Some x.1) (Some v) (find nat_cmp q es) (apart q k x (absent 0 x (omega arith)))

  find_inserted : (q k : ℕ) (v : X) (es : List (ℕ × X)) (i : ℕ) → NoKeyBefore es k i → find nat_cmp q (insert_at es i (k, v)) ≡ cond (eq_by_cmp nat_cmp q k) (Some v) (find nat_cmp q es)
  find_inserted q k v es zero absent = refl
  find_inserted q k v [] (suc i) absent = refl
  find_inserted q k v (x ∷ es) (suc i) absent =
      ap (cond (eq_by_cmp nat_cmp q x.0) (Some x.1)) (find_inserted q k v es i (not_later x es k i absent))
      ∙ swap_tests (eq_by_cmp nat_cmp q x.0) (eq_by_cmp nat_cmp q k) (Some x.1) (Some v) (find nat_cmp q es) (apart q k x (absent 0 x (omega arith)))

  -- ---- what a search tells
  none_before_at : (es : List (ℕ × X)) (k i : ℕ) → KeysRise es → IsAt es k i → NoKeyBefore es k i
  none_before_at es k i h at j d lt same = omega (arith, rising_at es h j i d lt at.in_range, at.has_key d)

  none_before_gap : (es : List (ℕ × X)) (k i : ℕ) → IsGapFor es k i → NoKeyBefore es k i
  none_before_gap es k i gap j d lt same = omega (arith, gap.before j d lt)

  none_in_gap : (es : List (ℕ × X)) (k i : ℕ) → IsGapFor es k i → NoKeyBefore es k (length es)
  none_in_gap es k i gap j d lt same = elim (cases_lt j i) [ inl below ↦ omega (arith, gap.before j d below) | inr above ↦ omega (arith, gap.from j d above lt) ]

  -- what is found at a key, by the place of the key
  pub found_at : (es : List (ℕ × X)) (k i : ℕ) (d : ℕ × X) → KeysRise es → IsAt es k i → get (from_entries {R = nat_cmp} es) k ≡ Some (get_or es i d).1
  found_at es k i d h at = get_in es k ∙ find_first k es i d at (none_before_at es k i h at)

  -- a key that fits into a gap of the entries is not found
  pub not_found : (es : List (ℕ × X)) (k i : ℕ) → IsGapFor es k i → get (from_entries {R = nat_cmp} es) k ≡ None
  not_found es k i gap = get_in es k ∙ find_none k es (none_in_gap es k i gap)

  -- a key that is not found is at no place
  pub nowhere : (es : List (ℕ × X)) (k i : ℕ) → KeysRise es → get (from_entries {R = nat_cmp} es) k ≡ None → IsAt es k i → ⊥
  nowhere [] k i h new at = omega (arith, at.in_range)
  nowhere (x ∷ es) k i h new at = none-some (get_or (x ∷ es) i x).1 (sym new ∙ found_at (x ∷ es) k i x h at)

  -- the comparisons with k rise along the entries, as a search by halves asks
  comparisons_rise : (es : List (ℕ × X)) (k : ℕ) → KeysRise es → IsNonDecreasingBy (λ e. ordering_index (nat_cmp e.0 k)) es
  comparisons_rise es k h i j d le within =
      let keys_rise : (get_or es i d).0 ≤ (get_or es j d).0 = grind (arith, rising_at es h i j d, λ (same : i ≡ j). ap (λ n. (get_or es n d).0) same) in
      grind (arith, nat_tests)

  -- a search by halves gives the place of the key, or the gap into which it fits
  pub searched : (es : List (ℕ × X)) (k : ℕ) → KeysRise es → (r : Result ℕ ℕ) → IsSearchInRange r (length es) → IsBinarySearchResult (λ e. nat_cmp e.0 k) es r → IfOk r (IsAt es k) × IfErr r (IsGapFor es k)
  searched es k h (Ok i) within equal = (record { in_range = within; has_key = λ d. ranked _ k _ (sym (equal d)) }, tt)
  searched es k h (Err i) within parted = (
    tt,
    record {
      in_range = within;
      before = λ j d lt. ranked _ k _ (sym ((parted (comparisons_rise es k h)).0 j d (omega arith) lt));
      from = λ j d le lt. ranked _ k _ (sym ((parted (comparisons_rise es k h)).1 j d le lt));
    },
  )

  -- ---- what an edit makes of the facts
  -- to write a new value at the place of a key is to insert it
  pub written : (es : List (ℕ × X)) (i k : ℕ) (v : X) → KeysRise es → IsAt es k i → from_entries {R = nat_cmp} (set es i (k, v)) ≡ insert (from_entries es) k v
  written es i k v h at = same_map nat_cmp_total nat_cmp-IsAntisymmetric _ _ (λ q.
      get_in (set es i (k, v)) q ∙ find_set q k v es i at (none_before_at es k i h at)
      ∙ ap (cond (eq_by_cmp nat_cmp q k) (Some v)) (sym (get_in es q))
      ∙ sym (get-insert nat_cmp_total (from_entries es) k v q))

  -- an entry that is inserted at the gap of its key is inserted in the map
  pub put_in : (es : List (ℕ × X)) (i k : ℕ) (v : X) → IsGapFor es k i → from_entries {R = nat_cmp} (insert_at es i (k, v)) ≡ insert (from_entries es) k v
  put_in es i k v gap = same_map nat_cmp_total nat_cmp-IsAntisymmetric _ _ (λ q.
      get_in (insert_at es i (k, v)) q ∙ find_inserted q k v es i (none_before_gap es k i gap)
      ∙ ap (cond (eq_by_cmp nat_cmp q k) (Some v)) (sym (get_in es q))
      ∙ sym (get-insert nat_cmp_total (from_entries es) k v q))

  -- the value at a key changed in its place
  pub changed_here : (es : List (ℕ × X)) (m : FinMap nat_cmp X) (i k : ℕ) (e : ℕ × X) (f : X → X) (v : X) → from_entries es ≡ m → KeysRise es → IsAt es k i
      → e ≡ get_or es i e → v ≡ f e.1 → from_entries {R = nat_cmp} (set es i (e.0, v)) ≡ changed_at k f m
  changed_here es m i k e f v view h at is new =
      let there : get m k ≡ Some e.1 = ap (λ n. get n k) (sym view) ∙ found_at es k i e h at ∙ ap (λ (x : ℕ × X). Some x.1) (sym is) in
      ap (λ n. from_entries {R = nat_cmp} (set es i (n, v))) (ap (λ (x : ℕ × X). x.0) is ∙ at.has_key e)
      ∙ written es i k v h at
      ∙ (λ j. insert (view j) k (new j))
      ∙ sym (ap (λ o. option_map_or (λ w. insert m k (f w)) o m) there)

  -- a change at a key that fits into a gap leaves the map
  pub not_changed : (es : List (ℕ × X)) (m : FinMap nat_cmp X) (k i : ℕ) (f : X → X) → from_entries es ≡ m → IsGapFor es k i → m ≡ changed_at k f m
  not_changed es m k i f view gap =
      sym (ap (λ o. option_map_or (λ v. insert m k (f v)) o m) (ap (λ n. get n k) (sym view) ∙ not_found es k i gap))

  -- ---- a key taken out
  all_stay : (k : ℕ) (es : List (ℕ × X)) → NoKeyBefore es k (length es) → filter (λ e. not (nat_eq e.0 k)) es ≡ es
  all_stay k [] absent = refl
  all_stay k (x ∷ es) absent =
      ap (λ b. cond (not b) (x ∷ filter (λ e. not (nat_eq e.0 k)) es) (filter (λ e. not (nat_eq e.0 k)) es)) (ne_eqb _ _ (absent 0 x (omega arith)))
      ∙ ap (λ l. x ∷ l) (all_stay k es (not_later x es k _ absent))

  -- removing the place of a key leaves the entries of all other keys
  pub without_at : (es : List (ℕ × X)) (k i : ℕ) → KeysRise es → IsAt es k i → remove_at es i ≡ filter (λ e. not (nat_eq e.0 k)) es
  without_at [] k i h at = absurd (omega (arith, at.in_range))
  without_at (x ∷ es) k zero h at =
      let here : x.0 ≡ k = at.has_key x in
      sym (ap (λ b. cond (not b) (x ∷ filter (λ e. not (nat_eq e.0 k)) es) (filter (λ e. not (nat_eq e.0 k)) es)) (eq-eqb _ _ here)
      ∙ all_stay k es (λ j d lt same. not_in_above x.0 es h.0 j d lt (same ∙ sym here)))
  without_at (x ∷ es) k (suc i) h at =
      let other : x.0 ≢ k = none_before_at (x ∷ es) k (suc i) h at 0 x (omega arith) in
      ap (λ l. x ∷ l) (without_at es k i h.1 (at_later x es k i at))
      ∙ sym (ap (λ b. cond (not b) (x ∷ filter (λ e. not (nat_eq e.0 k)) es) (filter (λ e. not (nat_eq e.0 k)) es)) (ne_eqb _ _ other))

  -- removing the place of a key removes it from the map
  pub taken_out : (es : List (ℕ × X)) (k i : ℕ) → KeysRise es → IsAt es k i → from_entries {R = nat_cmp} (remove_at es i) ≡ remove (from_entries es) k
  taken_out es k i h at = ap (λ l. from_entries {R = nat_cmp} l) (without_at es k i h at) ∙ removed es k

  -- removing a key that fits into a gap leaves the map
  pub nothing_to_take : (es : List (ℕ × X)) (k i : ℕ) → IsGapFor es k i → from_entries {R = nat_cmp} es ≡ remove (from_entries es) k
  nothing_to_take es k i gap = ap (λ l. from_entries {R = nat_cmp} l) (sym (all_stay k es (none_in_gap es k i gap))) ∙ removed es k
