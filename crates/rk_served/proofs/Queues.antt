-- Who stands in a queue, after each change of it.
use Rattle.rk_served.proofs.Words.{refl, ◌∙◌, ap, sym, List, ◌≡◌, [], subst, ℕ, inr, true, ◌∷◌, inl, ◌++◌, Bool, false, cond, length, arith, zero, suc, ◌⊎◌}
use Rattle.rk_served.proofs.Words.{◌<◌, eq-eqb, eqb-true, cases_Bool, cond_both, Contains-append_left, Contains-append_right, Contains-push}
use Rattle.rk_served.proofs.Words.{Contains-permutation, Vec, Contains, IsPermutation, nat_cmp, Some, Option, None, nat_eq, slice_index_or, Reverse, SessionId}
use Rattle.rk_served.proofs.Words.{get_removed, get_inserted, waiters_at}
use Rattle.std.specs.Option.{option_map_or}
use Rattle.std.specs.FinMap as map

-- ---- lists in another order

module _ {X : Type 0} where
  cons_cases : (x y : X) (xs : List X) (k : ℕ) → k < length (x ∷ xs) → slice_index_or (x ∷ xs) k y ≡ y → (y ≡ x) ⊎ Contains xs y
  cons_cases x y xs zero within e = inl (sym e)
  cons_cases x y xs (suc k) within e = inr (k, omega arith, e)

  -- one was taken
  pub one_taken : (xs ys : List X) (x : X) → IsPermutation xs (x ∷ ys) → (y : X) → Contains xs y → (y ≡ x) ⊎ Contains ys y
  one_taken xs ys x perm y has = (let h = Contains-permutation xs (x ∷ ys) y perm has in cons_cases x y ys h.0 h.1 h.2)

  -- one was put in
  pub one_put : (x : X) (xs ys : List X) → IsPermutation (x ∷ xs) ys → Contains ys x
  one_put x xs ys perm = Contains-permutation (x ∷ xs) ys x perm (zero, omega arith, refl)

  -- and the others are still there
  pub others_kept : (x : X) (xs ys : List X) → IsPermutation (x ∷ xs) ys → (y : X) → Contains xs y → Contains ys y
  others_kept x xs ys perm y has = Contains-permutation (x ∷ xs) ys y perm (suc has.0, (let h = has.1 in omega arith), has.2)

  -- some were put after them
  pub first_kept : (xs ys zs : List X) → IsPermutation (xs ++ ys) zs → (y : X) → Contains xs y → Contains zs y
  first_kept xs ys zs perm y has = Contains-permutation (xs ++ ys) zs y perm (Contains-append_left xs ys y has)

  -- these, in another order
  pub last_put : (xs ys ys' zs : List X) → IsPermutation ys ys' → IsPermutation (xs ++ ys') zs → (y : X) → Contains ys y → Contains zs y
  last_put xs ys ys' zs same perm y has = Contains-permutation (xs ++ ys') zs y perm (Contains-append_right xs ys' y (Contains-permutation ys ys' y same has))

-- ---- those that wait

abbrev waiters_in : Option (Vec (Reverse SessionId)) → List (Reverse SessionId)
waiters_in o = option_map_or (λ (v : Vec (Reverse SessionId)). v.items) o []

-- after those of a key are taken out and a list is put in for it
waiters_put : (facts : map.FinMap nat_cmp (Vec (Reverse SessionId))) (key : ℕ) (list : Vec (Reverse SessionId)) (k : ℕ)
    → waiters_at (map.insert (map.remove facts key) key list) k ≡ cond (nat_eq key k) list.items (waiters_at facts k)
waiters_put facts key list k =
    ap waiters_in (get_inserted (map.remove facts key) key list k ∙ ap (cond (nat_eq key k) (Some list)) (get_removed facts key k)) ∙ by_test (nat_eq key k)
  where
    by_test : (b : Bool) → waiters_in (cond b (Some list) (cond b None (map.get facts k))) ≡ cond b list.items (waiters_at facts k)
    by_test true = refl
    by_test false = refl

module _ (facts facts' : map.FinMap nat_cmp (Vec (Reverse SessionId))) (key : ℕ) (list : Vec (Reverse SessionId)) (who : Reverse SessionId)
    (is : facts' ≡ map.insert (map.remove facts key) key list) (items : list.items ≡ waiters_at facts key ++ who ∷ []) where
  there : (k : ℕ) → waiters_at facts' k ≡ cond (nat_eq key k) (waiters_at facts key ++ who ∷ []) (waiters_at facts k)
  there k = ap (λ m. waiters_at m k) is ∙ waiters_put facts key list k ∙ ap (λ xs. cond (nat_eq key k) xs (waiters_at facts k)) items

  -- it waits for the key
  pub one_parked : Contains (waiters_at facts' key) who
  one_parked = subst (λ xs. Contains xs who) (sym (there key ∙ ap (λ b. cond b (waiters_at facts key ++ who ∷ []) (waiters_at facts key)) (eq-eqb key key refl)))
      (Contains-push (waiters_at facts key) who)

  -- and all others wait as they did
  pub others_wait : (k : ℕ) (s : Reverse SessionId) → Contains (waiters_at facts k) s → Contains (waiters_at facts' k) s
  others_wait k s has =
      subst (λ xs. Contains xs s) (sym (there k))
      (cond_both (nat_eq key k) _ _ (λ xs. Contains xs s) (λ same. Contains-append_left (waiters_at facts key) (who ∷ []) s
      (subst (λ j. Contains (waiters_at facts j) s) (sym (eqb-true key k same)) has)) (λ other. has))

-- those of one key are taken out, and all others wait as they did
pub others_stay : (facts facts' : map.FinMap nat_cmp (Vec (Reverse SessionId))) (key : ℕ) → facts' ≡ map.remove facts key → (k : ℕ) (s : Reverse SessionId)
    → Contains (waiters_at facts k) s → Contains (waiters_at facts key) s ⊎ Contains (waiters_at facts' k) s
others_stay facts facts' key is k s has = elim (cases_Bool (nat_eq key k)) [
  | inl same ↦ inl (subst (λ j. Contains (waiters_at facts j) s) (sym (eqb-true key k same)) has)
  | inr other ↦ inr (subst (λ xs. Contains xs s) (sym (ap waiters_in (ap (λ m. map.get m k) is ∙ get_removed facts key k
      ∙ ap (λ b. cond b None (map.get facts k)) other))) has)
]
