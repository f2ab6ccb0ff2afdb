-- What one sees by the names of an index, through changes of who stands in the slots.
use Rattle.rk_auth.proofs.Words.{◌∙◌, ap, sym, ◌≡◌, refl, ℕ, arith, inl, inr, ◌||◌, Bool, List, ◌∷◌, [], length, cases_eq, none-some, nat_cmp_total, get}
use Rattle.rk_auth.proofs.Words.{remove, insert, len, same_map, nat_cmp-IsAntisymmetric, entries, get-entries, len-entries, option_map_or, Some, None, Option}
use Rattle.rk_auth.proofs.Words.{option_map, list_map, get_in, get_changed_all, find_mapped, at_new, at_other, left_in, taken_out, get_changed_at, changed_at}
use Rattle.rk_auth.proofs.Words.{changed_all, standing_at, seen, Standing, Index, Slots}
use Rattle.std.specs.List.{list_any}
use Rattle.rk_table.proofs.Once.{HasEachOnce, len_once, any_once, entries_once}
use Rattle.rk_auth.proofs.Links.{at_same, at_apart}

-- ---- what is seen at a name

module _ {V : Type 0} where
  named_by : (g : ℕ → V) → List (ℕ × ℕ) → List (ℕ × V)
  named_by g es = list_map (λ (e : ℕ × ℕ). (e.0, g e.1)) es

  once_named : (g : ℕ → V) (es : List (ℕ × ℕ)) → HasEachOnce es → HasEachOnce (list_map (λ (e : ℕ × ℕ). (e.0, g e.1)) es)
  once_named g [] h = tt
  once_named g (e ∷ es) h = (find_mapped g e.0 es ∙ ap (option_map g) h.0, once_named g es h.1)

  length_named : (g : ℕ → V) (es : List (ℕ × ℕ)) → length {A = ℕ × V} (list_map (λ (e : ℕ × ℕ). (e.0, g e.1)) es) ≡ length es
  length_named g [] = refl
  length_named g (e ∷ es) = omega (arith, length_named g es)

  any_named : (p : ℕ × V → Bool) (g : ℕ → V) (es : List (ℕ × ℕ)) → list_any p (list_map (λ (e : ℕ × ℕ). (e.0, g e.1)) es) ≡ list_any (λ (e : ℕ × ℕ). p (e.0, g e.1)) es
  any_named p g [] = refl
  any_named p g (e ∷ es) = ap (λ b. p (e.0, g e.1) || b) (any_named p g es)

  same_seen : (a b : ℕ → V) (o : Option ℕ) → ((i : ℕ) → o ≡ Some i → a i ≡ b i) → option_map a o ≡ option_map b o
  same_seen a b None h = refl
  same_seen a b (Some i) h = ap (λ x. Some x) (h i refl)

  module _ (pick : Option Standing → V) where
    pub seen_get : (m : Slots) (index : Index) (q : ℕ) → get (seen pick m index) q ≡ option_map (λ i. pick (standing_at m i)) (get index q)
    seen_get m index q =
        get_in (list_map (λ (e : ℕ × ℕ). (e.0, pick (standing_at m e.1))) (entries index)) q ∙ find_mapped (λ i. pick (standing_at m i)) q (entries index)
        ∙ ap (option_map (λ i. pick (standing_at m i))) (sym (get-entries index q))

    -- what is seen by a name is what stands in its slot
    pub seen_at : (m : Slots) (index : Index) (q i : ℕ) → get index q ≡ Some i → get (seen pick m index) q ≡ Some (pick (standing_at m i))
    seen_at m index q i is = seen_get m index q ∙ ap (option_map (λ i. pick (standing_at m i))) is

    -- nothing is seen by a name that the index does not have
    pub seen_none : (m : Slots) (index : Index) (q : ℕ) → get index q ≡ None → get (seen pick m index) q ≡ None
    seen_none m index q is = seen_get m index q ∙ ap (option_map (λ i. pick (standing_at m i))) is

    none_unseen : (o : Option ℕ) (a : ℕ → V) → option_map a o ≡ None → o ≡ None
    none_unseen None a e = refl
    none_unseen (Some i) a e = absurd (none-some (a i) (sym e))

    -- the index does not have a name by which nothing is seen
    pub unseen : (m : Slots) (index : Index) (q : ℕ) → get (seen pick m index) q ≡ None → get index q ≡ None
    unseen m index q none = none_unseen (get index q) (λ i. pick (standing_at m i)) (sym (seen_get m index q) ∙ none)

    -- as much is seen as the index has names
    pub seen_len : (m : Slots) (index : Index) → len (seen pick m index) ≡ len index
    seen_len m index =
        len_once (list_map (λ (e : ℕ × ℕ). (e.0, pick (standing_at m e.1))) (entries index))
        (once_named (λ i. pick (standing_at m i)) (entries index) (entries_once index))
        ∙ length_named (λ i. pick (standing_at m i)) (entries index) ∙ sym (len-entries index)

    -- a test passes one of what is seen exactly if it passes what stands in one of the index's slots
    pub seen_any : (p : ℕ × V → Bool) (m : Slots) (index : Index)
        → list_any p (entries (seen pick m index)) ≡ list_any (λ (e : ℕ × ℕ). p (e.0, pick (standing_at m e.1))) (entries index)
    seen_any p m index =
        any_once p (list_map (λ (e : ℕ × ℕ). (e.0, pick (standing_at m e.1))) (entries index))
        (once_named (λ i. pick (standing_at m i)) (entries index) (entries_once index)) ∙ any_named p (λ i. pick (standing_at m i)) (entries index)

    -- nothing that the index names has changed
    pub seen_same : (m n : Slots) (index : Index) → ((q i : ℕ) → get index q ≡ Some i → pick (standing_at n i) ≡ pick (standing_at m i)) → seen pick n index ≡ seen pick m index
    seen_same m n index same = same_map nat_cmp_total nat_cmp-IsAntisymmetric _ _ (λ q.
        seen_get n index q ∙ same_seen (λ i. pick (standing_at n i)) (λ i. pick (standing_at m i)) (get index q) (same q) ∙ sym (seen_get m index q))

    other_seen : (m n : Slots) (index : Index) (q : ℕ) → ((i : ℕ) → get index q ≡ Some i → pick (standing_at n i) ≡ pick (standing_at m i))
        → get (seen pick n index) q ≡ get (seen pick m index) q
    other_seen m n index q same =
        seen_get n index q ∙ same_seen (λ i. pick (standing_at n i)) (λ i. pick (standing_at m i)) (get index q) same ∙ sym (seen_get m index q)

    -- what is seen by k changes as its slot does, where the others stay
    pub seen_changed : (m n : Slots) (index : Index) (k i : ℕ) (g : V → V) → get index k ≡ Some i → pick (standing_at n i) ≡ g (pick (standing_at m i))
        → ((q j : ℕ) → (k ≡ q → ⊥) → get index q ≡ Some j → pick (standing_at n j) ≡ pick (standing_at m j))
        → seen pick n index ≡ changed_at k g (seen pick m index)
    seen_changed m n index k i g is to others = same_map nat_cmp_total nat_cmp-IsAntisymmetric _ _ (λ q. elim (cases_eq k q) [
      | inl e ↦
          let here : get index q ≡ Some i = ap (get index) (sym e) ∙ is in
          seen_at n index q i here ∙ ap (λ x. Some x) to ∙ sym (ap (option_map g) (seen_at m index q i here))
          ∙ sym (get_changed_at k g (seen pick m index) q ∙ at_same k q _ _ e)
      | inr ne ↦ other_seen m n index q (λ j. others q j ne) ∙ sym (get_changed_at k g (seen pick m index) q ∙ at_apart k q _ _ ne)
    ])

    -- a change by a name that the index does not have leaves what is seen
    pub seen_unchanged : (m : Slots) (index : Index) (k : ℕ) (g : V → V) → get index k ≡ None → seen pick m index ≡ changed_at k g (seen pick m index)
    seen_unchanged m index k g none = sym (ap (λ o. option_map_or (λ v. insert (seen pick m index) k (g v)) o (seen pick m index)) (seen_none m index k none))

    -- a name that is added shows what stands in its slot, where the others stay
    pub seen_put : (m n : Slots) (index : Index) (k p : ℕ) (v : V) → pick (standing_at n p) ≡ v
        → ((q j : ℕ) → get index q ≡ Some j → pick (standing_at n j) ≡ pick (standing_at m j))
        → seen pick n (insert index k p) ≡ insert (seen pick m index) k v
    seen_put m n index k p v to others = same_map nat_cmp_total nat_cmp-IsAntisymmetric _ _ (λ q. elim (cases_eq q k) [
      | inl e ↦ seen_at n (insert index k p) q p (at_new index k p q e) ∙ ap (λ x. Some x) to ∙ sym (at_new (seen pick m index) k v q e)
      | inr ne ↦
          seen_get n (insert index k p) q ∙ ap (option_map (λ i. pick (standing_at n i))) (at_other index k p q ne)
          ∙ same_seen (λ i. pick (standing_at n i)) (λ i. pick (standing_at m i)) (get index q) (others q) ∙ sym (seen_get m index q)
          ∙ sym (at_other (seen pick m index) k v q ne)
    ])

    -- a name that is removed is not seen any more, where the others stay
    pub seen_out : (m n : Slots) (index : Index) (k : ℕ) → ((q j : ℕ) → (k ≡ q → ⊥) → get index q ≡ Some j → pick (standing_at n j) ≡ pick (standing_at m j))
        → seen pick n (remove index k) ≡ remove (seen pick m index) k
    seen_out m n index k others = same_map nat_cmp_total nat_cmp-IsAntisymmetric _ _ (λ q. elim (cases_eq q k) [
      | inl e ↦ seen_none n (remove index k) q (taken_out index k q e) ∙ sym (taken_out (seen pick m index) k q e)
      | inr ne ↦
          seen_get n (remove index k) q ∙ ap (option_map (λ i. pick (standing_at n i))) (left_in index k q ne)
          ∙ same_seen (λ i. pick (standing_at n i)) (λ i. pick (standing_at m i)) (get index q) (λ j. others q j (λ e. ne (sym e))) ∙ sym (seen_get m index q)
          ∙ sym (left_in (seen pick m index) k q ne)
    ])

    -- removing a name that the index does not have leaves what is seen
    pub seen_not_out : (m : Slots) (index : Index) (k : ℕ) → get index k ≡ None → seen pick m index ≡ remove (seen pick m index) k
    seen_not_out m index k none = same_map nat_cmp_total nat_cmp-IsAntisymmetric _ _ (λ q. elim (cases_eq q k) [
      | inl e ↦ ap (get (seen pick m index)) e ∙ seen_none m index k none ∙ sym (taken_out (seen pick m index) k q e)
      | inr ne ↦ sym (left_in (seen pick m index) k q ne)
    ])

    -- where each slot of the index changes, all that is seen changes
    pub seen_all : (m n : Slots) (index : Index) (g : V → V) → ((q i : ℕ) → get index q ≡ Some i → pick (standing_at n i) ≡ g (pick (standing_at m i)))
        → seen pick n index ≡ changed_all g (seen pick m index)
    seen_all m n index g to = same_map nat_cmp_total nat_cmp-IsAntisymmetric _ _ (λ q.
        seen_get n index q ∙ by_found (get index q) (to q) ∙ ap (option_map g) (sym (seen_get m index q)) ∙ sym (get_changed_all g (seen pick m index) q))
      where
        by_found : (o : Option ℕ) → ((i : ℕ) → o ≡ Some i → pick (standing_at n i) ≡ g (pick (standing_at m i)))
            → option_map (λ i. pick (standing_at n i)) o ≡ option_map g (option_map (λ i. pick (standing_at m i)) o)
        by_found None h = refl
        by_found (Some i) h = ap (λ x. Some x) (h i refl)
