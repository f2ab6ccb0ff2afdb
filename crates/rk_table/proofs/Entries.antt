-- A list of entries as a finite map.
use Rattle.rk_table.proofs.Words.{◌∙◌, ap, sym, ◌≡◌, cond, ℕ, refl, true, false, ◌<◌, Bool, List, [], ◌∷◌, length, ◌+◌, get_or, not, ◌++◌, drop, add-one}
use Rattle.rk_table.proofs.Words.{drop-cons, ne_eqb, nat_cmp_total, unsigned_tied, nat_eq_equiv, FinMap, get, nat_cmp-IsAntisymmetric, from_entries, insert}
use Rattle.rk_table.proofs.Words.{find, same_map, remove, get-retain_keys, entries, get-entries, get-remove, get-from_entries, retain_keys, from_entries_push}
use Rattle.rk_table.proofs.Words.{find-where_key, nat_cmp, eq_by_cmp, Some, None, nat_eq, Option, filter, list_map, changed_all}
use Rattle.std.specs.Option.{option_map}

-- keys tie in the order of a map exactly if they are equal
pub tie : (q k : ℕ) → eq_by_cmp nat_cmp q k ≡ nat_eq k q
tie q k = unsigned_tied q k ∙ nat_eq_equiv.symm q k

-- what is made of a choice is a choice of what is made
pub of_choice : {A B : Type 0} (f : A → B) (b : Bool) (x y : A) → f (cond b x y) ≡ cond b (f x) (f y)
of_choice f true x y = refl
of_choice f false x y = refl

-- what is found in a list whose values were all changed is the changed value
pub find_mapped : {A B : Type 0} (f : A → B) (q : ℕ) (es : List (ℕ × A)) → find nat_cmp q (list_map (λ e. (e.0, f e.1)) es) ≡ option_map f (find nat_cmp q es)
find_mapped f q [] = refl
find_mapped f q (e ∷ es) =
    ap (cond (eq_by_cmp nat_cmp q e.0) (Some (f e.1))) (find_mapped f q es)
    ∙ sym (of_choice (option_map f) (eq_by_cmp nat_cmp q e.0) (Some e.1) (find nat_cmp q es))

module _ {X : Type 0} where
  find_drop : (q : ℕ) (es : List (ℕ × X)) (i : ℕ) (d : ℕ × X) → i < length es
      → find nat_cmp q (drop i es) ≡ cond (eq_by_cmp nat_cmp q (get_or es i d).0) (Some (get_or es i d).1) (find nat_cmp q (drop (i + 1) es))
  find_drop q es i d h = rw (add-one, drop-cons es i d)

  pub find_later : (q : ℕ) (es : List (ℕ × X)) (i : ℕ) (e : ℕ × X) → i < length es → e ≡ get_or es i e → (e.0 ≡ q → ⊥) → find nat_cmp q (drop i es) ≡ find nat_cmp q (drop (i + 1) es)
  find_later q es i e h is other =
      find_drop q es i e h ∙ ap (λ (x : ℕ × X). cond (eq_by_cmp nat_cmp q x.0) (Some x.1) (find nat_cmp q (drop (i + 1) es))) (sym is)
      ∙ ap (λ b. cond b (Some e.1) (find nat_cmp q (drop (i + 1) es))) (tie q e.0 ∙ ne_eqb _ _ other)

  -- the map of some entries has at a key the first entry of that key
  pub get_in : (es : List (ℕ × X)) (q : ℕ) → get (from_entries {R = nat_cmp} es) q ≡ find nat_cmp q es
  get_in es q = get-from_entries nat_cmp_total es q

  pub pushed : (es : List (ℕ × X)) (k : ℕ) (v : X) → get (from_entries {R = nat_cmp} es) k ≡ None → from_entries {R = nat_cmp} (es ++ (k, v) ∷ []) ≡ insert (from_entries es) k v
  pushed es k v none = from_entries_push nat_cmp_total nat_cmp-IsAntisymmetric es k v (sym (get_in es k) ∙ none)

  turned : (b : Bool) (x y : Option X) → cond (not b) x y ≡ cond b y x
  turned true x y = refl
  turned false x y = refl

  find_where : (p : ℕ → Bool) (q : ℕ) (es : List (ℕ × X)) → find nat_cmp q (filter (λ e. p e.0) es) ≡ cond (p q) (find nat_cmp q es) None
  find_where p q es = find-where_key nat_cmp p q (λ x e. ap p (sym (nat_cmp-IsAntisymmetric q x e))) es

  -- the entries whose keys pass a test make the map with those keys
  pub kept : (p : ℕ → Bool) (es : List (ℕ × X)) → from_entries {R = nat_cmp} (filter (λ e. p e.0) es) ≡ retain_keys (from_entries es) p
  kept p es = same_map nat_cmp_total nat_cmp-IsAntisymmetric _ _ (λ q.
      get_in (filter (λ e. p e.0) es) q ∙ find_where p q es
      ∙ ap (λ o. cond (p q) o None) (sym (get_in es q))
      ∙ sym (get-retain_keys (from_entries es) p q (λ x e. ap p (sym (nat_cmp-IsAntisymmetric q x e)))))

  -- entries without those of a key make the map without that key
  pub removed : (es : List (ℕ × X)) (k : ℕ) → from_entries {R = nat_cmp} (filter (λ e. not (nat_eq e.0 k)) es) ≡ remove (from_entries es) k
  removed es k = same_map nat_cmp_total nat_cmp-IsAntisymmetric _ _ (λ q.
      get_in (filter (λ e. not (nat_eq e.0 k)) es) q ∙ find_where (λ x. not (nat_eq x k)) q es
      ∙ turned (nat_eq q k) (find nat_cmp q es) None
      ∙ ap (λ b. cond b None (find nat_cmp q es)) (sym (unsigned_tied q k))
      ∙ ap (λ o. cond (eq_by_cmp nat_cmp q k) None o) (sym (get_in es q))
      ∙ sym (get-remove nat_cmp_total (from_entries es) k q))

  -- a choice within the other half of the same choice takes its other half
  pub shadow : (b : Bool) (x y z : Option X) → cond b x (cond b y z) ≡ cond b x z
  shadow true x y z = refl
  shadow false x y z = refl

  -- two choices that exclude one another may be made in either order
  pub swap_tests : (a b : Bool) (x y z : Option X) → (a ≡ true → b ≡ true → ⊥) → cond a x (cond b y z) ≡ cond b y (cond a x z)
  swap_tests true true x y z apart = absurd (apart refl refl)
  swap_tests true false x y z apart = refl
  swap_tests false b x y z apart = refl

  -- where all values of a map are changed, the one at each key is
  pub get_changed_all : (f : X → X) (m : FinMap nat_cmp X) (q : ℕ) → get (changed_all f m) q ≡ option_map f (get m q)
  get_changed_all f m q =
      get_in (list_map (λ e. (e.0, f e.1)) (entries m)) q ∙ find_mapped f q (entries m) ∙ ap (option_map f) (sym (get-entries m q))
