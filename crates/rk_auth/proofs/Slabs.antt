-- A slab as a finite map.
use Rattle.rk_auth.proofs.Words.{◌∙◌, ap, sym, ◌≡◌, subst, refl, ℕ, cond, arith, true, false, inl, inr, ◌||◌, Bool, List, ◌∷◌, [], ◌-◌, ◌<◌, ◌≤◌, length, ◌+◌}
use Rattle.rk_auth.proofs.Words.{zero, suc, get_or, zero-add, cases_eq, eq-eqb, ne_eqb, nat_cmp_total, find, same_map, nat_cmp-IsAntisymmetric, from_entries}
use Rattle.rk_auth.proofs.Words.{option_map_or, nat_cmp, Some, None, nat_eq, is_some, Option, IsSome, OnSome, IfNone, get_in, tie, at_new, at_other, left_in}
use Rattle.rk_auth.proofs.Words.{taken_out, changed_at, has, EachOnce}
use Rattle.std.specs.FinMap as map
use Rattle.slab.specs.Slab.{Slab, get, with_value, Updates, entries_from, entries, slab_len}
use Rattle.slab.proofs.SlabLemmas.{Updates-with_value, length-entries}
use Rattle.rk_auth.proofs.Lists.{not_more}

keys : {T : Type 0} → List (ℕ × T) → List ℕ
keys [] = []
keys (e ∷ es) = e.0 ∷ keys es

module _ {T : Type 0} where
  find_below : (q first : ℕ) (slots : List (Option T)) → q < first → find nat_cmp q (entries_from first slots) ≡ None
  find_below q first [] lt = refl
  find_below q first (None ∷ rest) lt = find_below q (first + 1) rest (omega (arith, lt))
  find_below q first (Some v ∷ rest) lt =
      ap (λ b. cond b (Some v) (find nat_cmp q (entries_from (first + 1) rest))) (tie q first ∙ ne_eqb first q (λ e. omega (arith, e, lt)))
      ∙ find_below q (first + 1) rest (omega (arith, lt))

  find_from : (first : ℕ) (slots : List (Option T)) (i : ℕ) → find nat_cmp (first + i) (entries_from first slots) ≡ get_or slots i None
  find_from first [] i = refl
  find_from first (None ∷ rest) zero = find_below (first + 0) (first + 1) rest (omega arith)
  find_from first (None ∷ rest) (suc i) =
      let shift : first + suc i ≡ first + 1 + i = omega arith in
      ap (λ q. find nat_cmp q (entries_from (first + 1) rest)) shift ∙ find_from (first + 1) rest i
  find_from first (Some v ∷ rest) zero =
      let same : first ≡ first + 0 = omega arith in
      ap (λ b. cond b (Some v) (find nat_cmp (first + 0) (entries_from (first + 1) rest))) (tie (first + 0) first ∙ eq-eqb first (first + 0) same)
  find_from first (Some v ∷ rest) (suc i) =
      let shift : first + suc i ≡ first + 1 + i = omega arith in
      ap (λ b. cond b (Some v) (find nat_cmp (first + suc i) (entries_from (first + 1) rest)))
      (tie (first + suc i) first ∙ ne_eqb first (first + suc i) (λ e. omega (arith, e)))
      ∙ ap (λ q. find nat_cmp q (entries_from (first + 1) rest)) shift ∙ find_from (first + 1) rest i

  abbrev pub facts_of : Slab T → map.FinMap nat_cmp T
  facts_of s = from_entries {R = nat_cmp} (entries s)

  -- the map of a slab has at each place what the slab has
  pub get_place : (s : Slab T) (i : ℕ) → map.get (facts_of s) i ≡ get s i
  get_place s i = get_in (entries s) i ∙ ap (λ q. find nat_cmp q (entries s)) (sym (zero-add i)) ∙ find_from 0 s.slots i

  -- a value that is put at a place of the slab is inserted in its map
  pub put_place : (old new : Slab T) (k : ℕ) (v : T) → Updates old new k (Some v) → facts_of new ≡ map.insert (facts_of old) k v
  put_place old new k v u = same_map nat_cmp_total nat_cmp-IsAntisymmetric _ _ (λ q. elim (cases_eq q k) [
    | inl e ↦ get_place new q ∙ ap (get new) e ∙ u.changed ∙ sym (at_new (facts_of old) k v q e)
    | inr ne ↦ get_place new q ∙ u.others q ne ∙ sym (get_place old q) ∙ sym (at_other (facts_of old) k v q ne)
  ])

  -- a place of the slab that is given back is removed from its map
  pub out_place : (old new : Slab T) (k : ℕ) → Updates old new k None → facts_of new ≡ map.remove (facts_of old) k
  out_place old new k u = same_map nat_cmp_total nat_cmp-IsAntisymmetric _ _ (λ q. elim (cases_eq q k) [
    | inl e ↦ get_place new q ∙ ap (get new) e ∙ u.changed ∙ sym (taken_out (facts_of old) k q e)
    | inr ne ↦ get_place new q ∙ u.others q ne ∙ sym (get_place old q) ∙ sym (left_in (facts_of old) k q ne)
  ])

  -- a value that is changed at a place of the slab is changed in its map
  pub change_place : (s : Slab T) (k : ℕ) (f : T → T) (v w : T) → get s k ≡ Some v → w ≡ f v → facts_of (with_value s k w) ≡ changed_at k f (facts_of s)
  change_place s k f v w is by =
      put_place s (with_value s k w) k w (Updates-with_value s k w (subst IsSome (sym is) refl)) ∙ ap (map.insert (facts_of s) k) by
      ∙ sym (ap (λ o. option_map_or (λ x. map.insert (facts_of s) k (f x)) o (facts_of s)) (get_place s k ∙ is))

  -- a change at a place where there is nothing leaves the map of the slab
  pub leave_place : (s : Slab T) (k : ℕ) (f : T → T) → get s k ≡ None → facts_of s ≡ changed_at k f (facts_of s)
  leave_place s k f none = sym (ap (λ o. option_map_or (λ x. map.insert (facts_of s) k (f x)) o (facts_of s)) (get_place s k ∙ none))

  has_key : (q : ℕ) (es : List (ℕ × T)) → has (keys es) q ≡ is_some (find nat_cmp q es)
  unfolding keys
  has_key q [] = refl
  has_key q (e ∷ es) = ap (λ b. nat_eq e.0 q || b) (has_key q es) ∙ by_tests (nat_eq e.0 q) (find nat_cmp q es) ∙ sym (ap (λ b. is_some (cond b (Some e.1) (find nat_cmp q es))) (tie q e.0))
    where
      by_tests : (b : Bool) (o : Option T) → (b || is_some o) ≡ is_some (cond b (Some e.1) o)
      by_tests true o = refl
      by_tests false o = refl

  length_keys : (es : List (ℕ × T)) → length (keys es) ≡ length es
  unfolding keys
  length_keys [] = refl
  length_keys (e ∷ es) = omega (arith, length_keys es)

  -- there are not more places than values
  pub no_more_places : (s : Slab T) (n : ℕ) (ps : List ℕ) → n ≡ slab_len s → EachOnce ps → ((p : ℕ) → has ps p ≡ true → is_some (map.get (facts_of s) p) ≡ true) → length ps ≤ n
  no_more_places s n ps is once there =
      let within : length ps ≤ length (keys (entries s)) = not_more ps (keys (entries s)) once (λ q t. has_key q (entries s) ∙ ap is_some (sym (get_in (entries s) q)) ∙ there q t) in
      omega (arith, within, length_keys (entries s), length-entries s, is)

  -- taking a value out gives one place back, if there was one
  pub room_again : (s t : Slab T) (k : ℕ) (o : Option T) → o ≡ get s k → (t.capacity ≡ s.capacity) → OnSome o (slab_len t + 1 ≡ slab_len s) → OnSome o (slab_len t + 1 ≤ t.capacity)
      → IfNone o (t ≡ s)
      → t.capacity - slab_len t ≡ cond (is_some (map.get (facts_of s) k)) (s.capacity - slab_len s + 1) (s.capacity - slab_len s)
  room_again s t k None is cap fewer room same =
      ap (λ (x : Slab T). x.capacity - slab_len x) same ∙ ap (λ o. cond (is_some o) (s.capacity - slab_len s + 1) (s.capacity - slab_len s)) (is ∙ sym (get_place s k))
  room_again s t k (Some v) is cap fewer room same =
      let more : t.capacity - slab_len t ≡ s.capacity - slab_len s + 1 = omega (arith, cap, fewer, room) in
      more ∙ ap (λ o. cond (is_some o) (s.capacity - slab_len s + 1) (s.capacity - slab_len s)) (is ∙ sym (get_place s k))
