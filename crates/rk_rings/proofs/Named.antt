-- Which links a ring has after a change, and that no two are of one name.
use Rattle.rk_rings.proofs.Words.{◌∙◌, ap, sym, ◌≡◌, ℕ, cond, false, refl, true, Bool, not, ◌||◌, inl, inr, ◌⊎◌, both_ways, eq-eqb, nat_cmp_total}
use Rattle.rk_rings.proofs.Words.{option_map_or, nat_cmp, eq_by_cmp, None, Some, nat_eq, Option, get_kept_where, kept_where, Numbered, unlinked}
use Rattle.rk_rings.proofs.Words.{HasEachNameOnce, is_full, linked_in_room, links_with}
use Rattle.std.specs.FinMap as map
use Rattle.rk_rings.proofs.Finds.{tied}

-- ---- a link is put in

kept_is : (n : ℕ) (o : Option ℕ) (m : ℕ) → cond (option_map_or (λ x. not (nat_eq x n)) o false) o None ≡ Some m → (o ≡ Some m) × (nat_eq m n ≡ false)
kept_is n None m e = absurd (cc)
kept_is n (Some x) m e = by_test (nat_eq x n) refl e
  where
    by_test : (b : Bool) → nat_eq x n ≡ b → cond (not b) (Some x) None ≡ Some m → (◌≡◌ {A = Option ℕ} (Some x) (Some m)) × (nat_eq m n ≡ false)
    by_test true t e = absurd (cc)
    by_test false t e = let same : x ≡ m = cc in (e, ap (λ y. nat_eq y n) (sym same) ∙ t)

-- a link is the new one, or was there and has another number
link_is : (links : map.FinMap nat_cmp ℕ) (k n j m : ℕ) → map.get (map.insert (kept_where (λ j m. not (nat_eq m n)) links) k n) j ≡ Some m
    → ((j ≡ k) × (m ≡ n)) ⊎ ((map.get links j ≡ Some m) × (nat_eq m n ≡ false))
link_is links k n j m e = by_key (eq_by_cmp nat_cmp j k) refl (sym (map.get-insert nat_cmp_total (kept_where (λ j m. not (nat_eq m n)) links) k n j) ∙ e)
  where
    by_key : (b : Bool) → eq_by_cmp nat_cmp j k ≡ b → cond b (Some n) (map.get (kept_where (λ j m. not (nat_eq m n)) links) j) ≡ Some m
        → ((j ≡ k) × (m ≡ n)) ⊎ ((map.get links j ≡ Some m) × (nat_eq m n ≡ false))
    by_key true t e = let same : m ≡ n = cc in inl (tied j k t, same)
    by_key false t e = inr (kept_is n (map.get links j) m (sym (get_kept_where (λ j m. not (nat_eq m n)) links j) ∙ e))

-- a link is the new one, or was there
pub new_or_there : (links : map.FinMap nat_cmp ℕ) (k n j m : ℕ) → map.get (links_with k n links) j ≡ Some m → (map.get links j ≡ Some m) ⊎ ((j ≡ k) × (m ≡ n))
new_or_there links k n j m e = by_test (map.contains_key links k) e
  where
    by_link : ((j ≡ k) × (m ≡ n)) ⊎ ((map.get links j ≡ Some m) × (nat_eq m n ≡ false)) → (map.get links j ≡ Some m) ⊎ ((j ≡ k) × (m ≡ n))
    by_link (inl x) = inr x
    by_link (inr x) = inl x.0

    by_test : (b : Bool) → map.get (cond b links (map.insert (kept_where (λ j m. not (nat_eq m n)) links) k n)) j ≡ Some m
        → (map.get links j ≡ Some m) ⊎ ((j ≡ k) × (m ≡ n))
    by_test true e = inl e
    by_test false e = by_link (link_is links k n j m e)

differs : (m n : ℕ) → nat_eq m n ≡ false → m ≡ n → ⊥
differs m n t e = both_ways _ t (ap (λ x. nat_eq m x) (sym e) ∙ eq-eqb m m refl)

once_put : (links : map.FinMap nat_cmp ℕ) (k n : ℕ) → HasEachNameOnce links → HasEachNameOnce (map.insert (kept_where (λ j m. not (nat_eq m n)) links) k n)
once_put links k n once i j p a b = by_cases (link_is links k n i p a) (link_is links k n j p b)
  where
    by_cases : ((i ≡ k) × (p ≡ n)) ⊎ ((map.get links i ≡ Some p) × (nat_eq p n ≡ false))
        → ((j ≡ k) × (p ≡ n)) ⊎ ((map.get links j ≡ Some p) × (nat_eq p n ≡ false)) → i ≡ j
    by_cases (inl x) (inl y) = x.0 ∙ sym y.0
    by_cases (inl x) (inr y) = absurd (differs p n y.1 x.1)
    by_cases (inr x) (inl y) = absurd (differs p n x.1 y.1)
    by_cases (inr x) (inr y) = once i j p x.0 y.0

once_with : (links : map.FinMap nat_cmp ℕ) (k n : ℕ) → HasEachNameOnce links → HasEachNameOnce (links_with k n links)
once_with links k n once =
    elim (map.contains_key links k) as (λ b. HasEachNameOnce (cond b links (map.insert (kept_where (λ j m. not (nat_eq m n)) links) k n))) [
      | true ↦ once
      | false ↦ once_put links k n once
    ]

-- each name stands once in a ring after a key is linked
pub once_linked : (k n : ℕ) (r : Numbered) → HasEachNameOnce r.links → HasEachNameOnce (linked_in_room k n r).links
once_linked k n r once =
    elim (map.contains_key r.links k || not (is_full (Some n) r)) as (λ b. HasEachNameOnce (cond b (record r { links = links_with k n r.links }) r).links) [
      | true ↦ once_with r.links k n once
      | false ↦ once
    ]

-- ---- links are taken out

-- a link that is left was there
pub left_there : (links : map.FinMap nat_cmp ℕ) (k j m : ℕ) → map.get (map.remove links k) j ≡ Some m → map.get links j ≡ Some m
left_there links k j m e = by_key (eq_by_cmp nat_cmp j k) (sym (map.get-remove nat_cmp_total links k j) ∙ e)
  where
    by_key : (b : Bool) → cond b None (map.get links j) ≡ Some m → map.get links j ≡ Some m
    by_key true e = absurd (cc)
    by_key false e = e

-- each name stands once in a ring after a key is unlinked
pub once_unlinked : (k : ℕ) (r : Numbered) → HasEachNameOnce r.links → HasEachNameOnce (unlinked k r).links
once_unlinked k r once i j n a b = once i j n (left_there r.links k i n a) (left_there r.links k j n b)

-- nothing is linked in an empty ring
pub no_link : (j n : ℕ) → map.get (map.empty {X = ℕ} {R = nat_cmp}) j ≡ Some n → ⊥
no_link j n e = let h : None ≡ Some n = sym (map.get-empty nat_cmp j) ∙ e in absurd (cc)

-- each name stands once in an empty ring
pub once_empty : HasEachNameOnce map.empty
once_empty i j n a b = absurd (no_link i n a)
