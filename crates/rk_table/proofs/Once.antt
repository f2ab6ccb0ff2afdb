-- Tables in which each key stands once.
use Rattle.rk_table.proofs.Words.{◌∙◌, ap, sym, ◌≡◌, cond, subst, ℕ, refl, true, false, arith, Bool, List, [], ◌∷◌, length, ◌+◌, get_or, zero, suc, ◌-◌, ◌≤◌}
use Rattle.rk_table.proofs.Words.{set, ◌||◌, T, ◌&&◌, eq-eqb, eqb-true, both_ways, none-some, nat_cmp_total, nat_cmp_is, FinMap, get, nat_cmp-IsAntisymmetric}
use Rattle.rk_table.proofs.Words.{from_entries, find, same_map, get-retain_keys, entries, get-entries, len, empty, len-empty, len-insert, entries-insert}
use Rattle.rk_table.proofs.Words.{len-entries, is_sorted, entries_sorted, put, by_order, below_all, list_any, option_map_or, nat_cmp, eq_by_cmp, is_eq, is_lt}
use Rattle.rk_table.proofs.Words.{Some, None, Option, is_some, option_map, filter, list_map, list_find, MatchOption, Ordering, KeysRise, AreAbove, kept_where}
use Rattle.std.specs.declared.cmp.Ordering.TheVariants.{Less, Equal, Greater}
use Rattle.rk_lemmas.proofs.Bools.{or_swap}
use Rattle.rk_table.proofs.Entries.{tie, get_in}
use Rattle.rk_table.proofs.Rising.{not_in_above}
use Rattle.rk_table.proofs.Found.{find_none}

-- no key stands twice
abbrev pub HasEachOnce : {V : Type 0} → List (ℕ × V) → Type 0
HasEachOnce [] = Unit {0}
HasEachOnce (e ∷ es) = (find nat_cmp e.0 es ≡ None) × HasEachOnce es

no_length : {A : Type 0} (es : List A) → length es ≡ 0 → es ≡ []
no_length [] e = refl
no_length (x ∷ es) e = absurd (omega arith)

not_tied : (r : Ordering) → T (is_lt r) → is_eq r ≡ false
not_tied Less h = refl
not_tied Equal h = absurd h
not_tied Greater h = absurd h

first_of : (a b : Bool) → T (a && b) → T a
first_of true b h = tt
first_of false b h = h

rest_of : (a b : Bool) → T (a && b) → T b
rest_of true b h = h
rest_of false b h = absurd h

module _ {X : Type 0} where
  no_entries : entries (from_entries {X = X} {R = nat_cmp} []) ≡ []
  no_entries = no_length _ (sym (len-entries (empty {X = X} {R = nat_cmp})) ∙ len-empty nat_cmp X)

  -- the map of entries of which no key stands twice has as many as they are
  pub len_once : (es : List (ℕ × X)) → HasEachOnce es → len (from_entries {R = nat_cmp} es) ≡ length es
  len_once [] h = len-empty nat_cmp X
  len_once (e ∷ es) h =
      len-insert nat_cmp_total (from_entries es) e.0 e.1
      ∙ ap (λ o. cond (is_some o) (len (from_entries {R = nat_cmp} es)) (len (from_entries {R = nat_cmp} es) + 1)) (get_in es e.0 ∙ h.0)
      ∙ ap (λ n. n + 1) (len_once es h.1) ∙ omega arith

  -- a new entry, wherever it is put
  any_put : (p : ℕ × X → Bool) (k : ℕ) (v : X) (es : List (ℕ × X)) → find nat_cmp k es ≡ None → list_any p (put nat_cmp k v es) ≡ (p (k, v) || list_any p es)
  any_put p k v [] h = refl
  any_put p k v (e ∷ es) h =
      elim (nat_cmp k e.0) as (λ r. nat_cmp k e.0 ≡ r → list_any p (by_order r ((k, v) ∷ e ∷ es) ((e.0, v) ∷ es) (e ∷ put nat_cmp k v es)) ≡ (p (k, v) || (p e || list_any p es))) [
        | Less ↦ λ r. refl
        | Equal ↦ λ r. absurd (none-some e.1 (sym h ∙ ap (λ o. cond (is_eq o) (Some e.1) (find nat_cmp k es)) r))
        | Greater ↦ λ r. ap (λ b. p e || b) (any_put p k v es (sym (ap (λ o. cond (is_eq o) (Some e.1) (find nat_cmp k es)) r) ∙ h)) ∙ or_swap (p e) (p (k, v)) _
      ] refl

  -- a test passes an entry of the map exactly if it passes one of the list
  pub any_once : (p : ℕ × X → Bool) (es : List (ℕ × X)) → HasEachOnce es → list_any p (entries (from_entries {R = nat_cmp} es)) ≡ list_any p es
  any_once p [] h = ap (list_any p) (no_entries)
  any_once p (e ∷ es) h =
      ap (list_any p) (entries-insert nat_cmp_total (from_entries es) e.0 e.1)
      ∙ any_put p e.0 e.1 _ (sym (get-entries (from_entries es) e.0) ∙ get_in es e.0 ∙ h.0)
      ∙ ap (λ b. p e || b) (any_once p es h.1)

  none_below : (k : ℕ) (es : List (ℕ × X)) → T (below_all nat_cmp k es) → find nat_cmp k es ≡ None
  none_below k [] h = refl
  none_below k (e ∷ es) h = ap (λ b. cond b (Some e.1) (find nat_cmp k es)) (not_tied (nat_cmp k e.0) (first_of _ _ h)) ∙ none_below k es (rest_of _ _ h)

  once_sorted : (es : List (ℕ × X)) → T (is_sorted nat_cmp es) → HasEachOnce es
  once_sorted [] h = tt
  once_sorted (e ∷ es) h = (none_below e.0 es (first_of _ _ h), once_sorted es (rest_of _ _ h))

  -- a map has each key once
  pub entries_once : (m : FinMap nat_cmp X) → HasEachOnce (entries m)
  entries_once m = once_sorted (entries m) (entries_sorted m)

  none_above : (k : ℕ) (es : List (ℕ × X)) → AreAbove k es → find nat_cmp k es ≡ None
  none_above k es h = find_none k es (not_in_above k es h)

  -- where keys rise, none stands twice
  pub once_rising : (es : List (ℕ × X)) → KeysRise es → HasEachOnce es
  once_rising [] h = tt
  once_rising (e ∷ es) h = (none_above e.0 es h.0, once_rising es h.1)

  -- entries whose keys rise are in their map's order
  put_first : (k : ℕ) (v : X) (es : List (ℕ × X)) → AreAbove k es → put nat_cmp k v es ≡ (k, v) ∷ es
  put_first k v [] h = refl
  put_first k v (e ∷ es) h = ap (λ r. by_order r ((k, v) ∷ e ∷ es) ((e.0, v) ∷ es) (e ∷ put nat_cmp k v es)) (sym (nat_cmp_is k e.0 Less h.0))

  -- entries whose keys rise are those of their map, in its order
  pub entries_rising : (es : List (ℕ × X)) → KeysRise es → entries (from_entries {R = nat_cmp} es) ≡ es
  entries_rising [] h = no_entries
  entries_rising (e ∷ es) h =
      entries-insert nat_cmp_total (from_entries es) e.0 e.1
      ∙ ap (put nat_cmp e.0 e.1) (entries_rising es h.1) ∙ put_first e.0 e.1 es h.0

  -- ---- what keeps each key once
  none_left : (p : ℕ × X → Bool) (q : ℕ) (es : List (ℕ × X)) → find nat_cmp q es ≡ None → find nat_cmp q (filter p es) ≡ None
  none_left p q [] h = refl
  none_left p q (e ∷ es) h =
      elim (eq_by_cmp nat_cmp q e.0) as (λ t. eq_by_cmp nat_cmp q e.0 ≡ t → cond t (Some e.1) (find nat_cmp q es) ≡ None → find nat_cmp q (cond (p e) (e ∷ filter p es) (filter p es)) ≡ None) [
        | true ↦ λ t h. absurd (none-some e.1 (sym h))
        | false ↦ λ t h. elim (p e) as (λ b. find nat_cmp q (cond b (e ∷ filter p es) (filter p es)) ≡ None) [
          | true ↦ ap (λ b. cond b (Some e.1) (find nat_cmp q (filter p es))) t ∙ none_left p q es h
          | false ↦ none_left p q es h
        ]
      ] refl h

  pub once_filtered : (p : ℕ × X → Bool) (es : List (ℕ × X)) → HasEachOnce es → HasEachOnce (filter p es)
  once_filtered p [] h = tt
  once_filtered p (e ∷ es) h =
      elim (p e) as (λ b. HasEachOnce (cond b (e ∷ filter p es) (filter p es))) [ true ↦ (none_left p e.0 es h.0, once_filtered p es h.1) | false ↦ once_filtered p es h.1 ]

  -- writing a value at a place leaves the keys
  pub keys_written : (es : List (ℕ × X)) (i : ℕ) (e : ℕ × X) (v : X) → e ≡ get_or es i e → list_map (λ e. e.0) es ≡ list_map (λ e. e.0) (set es i (e.0, v))
  keys_written [] i e v at = refl
  keys_written (x ∷ es) zero e v at = ap (λ (y : ℕ × X). y.0 ∷ list_map (λ (z : ℕ × X). z.0) es) (sym at)
  keys_written (x ∷ es) (suc i) e v at = ap (λ ks. x.0 ∷ ks) (keys_written es i e v at)

  find_kept : (p : ℕ → X → Bool) (q : ℕ) (es : List (ℕ × X)) → HasEachOnce es
      → find nat_cmp q (filter (λ e. p e.0 e.1) es) ≡ cond (option_map_or (p q) (find nat_cmp q es) false) (find nat_cmp q es) None
  find_kept p q [] h = refl
  find_kept p q (e ∷ es) h =
      elim (eq_by_cmp nat_cmp q e.0) as (λ t. eq_by_cmp nat_cmp q e.0 ≡ t → find nat_cmp q (cond (p e.0 e.1) (e ∷ filter (λ x. p x.0 x.1) es) (filter (λ x. p x.0 x.1) es))
      ≡ cond (option_map_or (p q) (cond t (Some e.1) (find nat_cmp q es)) false) (cond t (Some e.1) (find nat_cmp q es)) None) [
        | true ↦ λ t.
            let here : q ≡ e.0 = sym (eqb-true _ _ (sym (tie q e.0) ∙ t)) in
            elim (p e.0 e.1) as (λ b. p e.0 e.1 ≡ b → find nat_cmp q (cond b (e ∷ filter (λ x. p x.0 x.1) es) (filter (λ x. p x.0 x.1) es)) ≡ cond (p q e.1) (Some e.1) None) [
              | true ↦ λ is. ap (λ b. cond b (Some e.1) (find nat_cmp q (filter (λ x. p x.0 x.1) es))) t ∙ sym (ap (λ b. cond b (Some e.1) None) (ap (λ n. p n e.1) here ∙ is))
              | false ↦ λ is. none_left _ q es (ap (λ n. find nat_cmp n es) here ∙ h.0) ∙ sym (ap (λ b. cond b (Some e.1) None) (ap (λ n. p n e.1) here ∙ is))
            ] refl
        | false ↦ λ t.
            elim (p e.0 e.1) as (λ b. find nat_cmp q (cond b (e ∷ filter (λ x. p x.0 x.1) es) (filter (λ x. p x.0 x.1) es)) ≡ find nat_cmp q (filter (λ x. p x.0 x.1) es)) [
              | true ↦ ap (λ b. cond b (Some e.1) (find nat_cmp q (filter (λ x. p x.0 x.1) es))) t
              | false ↦ refl
            ] ∙ find_kept p q es h.1
      ] refl

  -- the entries that pass a test make the map of those that pass
  pub kept_once : (p : ℕ → X → Bool) (es : List (ℕ × X)) → HasEachOnce es → from_entries {R = nat_cmp} (filter (λ e. p e.0 e.1) es) ≡ kept_where p (from_entries es)
  kept_once p es h = same_map nat_cmp_total nat_cmp-IsAntisymmetric _ _ (λ q.
      let m : FinMap nat_cmp X = from_entries es in
      let test : ℕ → Bool = λ k. option_map_or (p k) (get m k) false in
      get_in (filter (λ e. p e.0 e.1) es) q ∙ find_kept p q es h
      ∙ ap (λ o. cond (option_map_or (p q) o false) o None) (sym (get_in es q))
      ∙ sym (get-retain_keys m test q (λ x t. ap test (sym (nat_cmp-IsAntisymmetric q x t)))))

  -- the places of a list of entries are those that it has memory for
  pub places_once : (es : List (ℕ × X)) (n capacity : ℕ) → KeysRise es → n ≡ length es → n ≤ capacity → len (from_entries {R = nat_cmp} es) + (capacity - n) ≡ capacity
  places_once es n capacity h e le = omega (arith, len_once es (once_rising es h), e, le)

  -- what a search for an entry finds
  abbrev pub FindsEntry : (ℕ → X → Bool) → FinMap nat_cmp X → Option ℕ → Type 0
  FindsEntry p m o = MatchOption o (list_any (λ (e : ℕ × X). p e.0 e.1) (entries m) ≡ false) (λ k. (option_map_or (p k) (get m k) false ≡ true) × (list_any (λ (e : ℕ × X). p e.0 e.1) (entries m) ≡ true))

  -- no entry passes, or one that stands in the list does
  FoundIn : (ℕ → X → Bool) → List (ℕ × X) → Option ℕ → Type 0
  FoundIn p es o = MatchOption o (list_any (λ (e : ℕ × X). p e.0 e.1) es ≡ false) (λ k. (option_map_or (p k) (find nat_cmp k es) false ≡ true) × (list_any (λ (e : ℕ × X). p e.0 e.1) es ≡ true))

  further : (p : ℕ → X → Bool) (e : ℕ × X) (es : List (ℕ × X)) (o : Option (ℕ × X)) → HasEachOnce (e ∷ es) → FoundIn p es (option_map (λ (e : ℕ × X). e.0) o)
      → MatchOption (option_map (λ (x : ℕ × X). x.0) o) (list_any (λ (x : ℕ × X). p x.0 x.1) es ≡ false)
      (λ k. (option_map_or (p k) (find nat_cmp k (e ∷ es)) false ≡ true) × (list_any (λ (x : ℕ × X). p x.0 x.1) es ≡ true))
  unfolding FoundIn
  further p e es None h f = f
  further p e es (Some x) h f = (
    elim (eq_by_cmp nat_cmp x.0 e.0) as (λ b. eq_by_cmp nat_cmp x.0 e.0 ≡ b → option_map_or (p x.0) (cond b (Some e.1) (find nat_cmp x.0 es)) false ≡ true) [
      | true ↦ λ t. absurd (both_ways true (sym f.0 ∙ ap (λ o. option_map_or (p x.0) o false) (ap (λ n. find nat_cmp n es) (sym (eqb-true _ _ (sym (tie x.0 e.0) ∙ t))) ∙ h.0)) refl)
      | false ↦ λ t. f.0
    ] refl,
    f.1,
  )

  found_in : (p : ℕ → X → Bool) (es : List (ℕ × X)) → HasEachOnce es → FoundIn p es (option_map (λ (e : ℕ × X). e.0) (list_find (λ (e : ℕ × X). p e.0 e.1) es))
  unfolding FoundIn
  found_in p [] h = refl
  found_in p (e ∷ es) h =
      elim (p e.0 e.1) as (λ b. p e.0 e.1 ≡ b → MatchOption (option_map (λ (x : ℕ × X). x.0) (cond b (Some e) (list_find (λ (x : ℕ × X). p x.0 x.1) es))) ((b || list_any (λ (x : ℕ × X). p x.0 x.1) es) ≡ false)
      (λ k. (option_map_or (p k) (find nat_cmp k (e ∷ es)) false ≡ true) × ((b || list_any (λ (x : ℕ × X). p x.0 x.1) es) ≡ true))) [
        | true ↦ λ is. (ap (λ b. option_map_or (p e.0) (cond b (Some e.1) (find nat_cmp e.0 es)) false) (tie e.0 e.0 ∙ eq-eqb e.0 e.0 refl) ∙ is, refl)
        | false ↦ λ is. further p e es (list_find (λ (x : ℕ × X). p x.0 x.1) es) h (found_in p es h.1)
      ] refl

  turned : (p : ℕ → X → Bool) (es : List (ℕ × X)) (o : Option ℕ) → HasEachOnce es → FoundIn p es o → FindsEntry p (from_entries es) o
  unfolding FoundIn
  turned p es None h f = any_once (λ e. p e.0 e.1) es h ∙ f
  turned p es (Some k) h f = (ap (λ o. option_map_or (p k) o false) (get_in es k) ∙ f.0, any_once (λ e. p e.0 e.1) es h ∙ f.1)

  -- the first entry of the list that passes is one that a search of the map may find
  pub finds_entry : (p : ℕ → X → Bool) (es : List (ℕ × X)) (m : FinMap nat_cmp X) (o : Option ℕ) → HasEachOnce es → from_entries es ≡ m
      → o ≡ option_map (λ (e : ℕ × X). e.0) (list_find (λ (e : ℕ × X). p e.0 e.1) es) → FindsEntry p m o
  finds_entry p es m o h view is =
      subst (FindsEntry p m) (sym is) (subst (λ n. FindsEntry p n (option_map (λ (e : ℕ × X). e.0) (list_find (λ (e : ℕ × X). p e.0 e.1) es))) view (turned p es _ h (found_in p es h)))
