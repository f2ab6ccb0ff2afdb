-- What some entry of a map passes, and what stands at a key.
use Rattle.rk_rings.proofs.Words.{◌∙◌, ap, sym, ◌≡◌, ℕ, cond, false, refl, true, Bool, List, [], ◌∷◌, ◌||◌, both_ways, eq-eqb, eqb-true, none-some, get, FinMap}
use Rattle.rk_rings.proofs.Words.{entries, find, get-entries, values, list_any, nat_cmp, eq_by_cmp, None, Some, Option, list_map, tie, HasEachOnce}
use Rattle.rk_rings.proofs.Words.{entries_once}

-- the number that ties with another is that one
pub tied : (q k : ℕ) → eq_by_cmp nat_cmp q k ≡ true → q ≡ k
tied q k t = sym (eqb-true k q (sym (tie q k) ∙ t))

-- a key ties with itself
pub tied_itself : (q : ℕ) → eq_by_cmp nat_cmp q q ≡ true
tied_itself q = tie q q ∙ eq-eqb q q refl

module _ {X : Type 0} where
  any_at : (p : ℕ × X → Bool) (es : List (ℕ × X)) (q : ℕ) (v : X) → find nat_cmp q es ≡ Some v → p (q, v) ≡ true → list_any p es ≡ true
  any_at p [] q v there is = absurd (cc)
  any_at p (e ∷ es) q v there is =
      elim (eq_by_cmp nat_cmp q e.0) as (λ b. eq_by_cmp nat_cmp q e.0 ≡ b → cond b (Some e.1) (find nat_cmp q es) ≡ Some v → (p e || list_any p es) ≡ true) [
        | true ↦ λ t there.
            let key : q ≡ e.0 = tied q e.0 t in
            let value : e.1 ≡ v = cc in
            ap (λ b. b || list_any p es) ((λ i. p (sym key i, value i)) ∙ is)
        | false ↦ λ t there. elim (p e) as (λ b. (b || list_any p es) ≡ true) [ true ↦ refl | false ↦ any_at p es q v there is ]
      ] refl there

  abbrev pub Found : (ℕ × X → Bool) → (ℕ → Option X) → Type 0
  Found p at = (q : ℕ) × (v : X) × (at q ≡ Some v) × (p (q, v) ≡ true)

  found_later : (p : ℕ × X → Bool) (e : ℕ × X) (es : List (ℕ × X)) → find nat_cmp e.0 es ≡ None → Found p (λ q. find nat_cmp q es) →
      Found p (λ q. find nat_cmp q (e ∷ es))
  found_later p e es none f = (
    f.0,
    f.1,
    elim (eq_by_cmp nat_cmp f.0 e.0) as (λ b. eq_by_cmp nat_cmp f.0 e.0 ≡ b → cond b (Some e.1) (find nat_cmp f.0 es) ≡ Some f.1) [
      | true ↦ λ t. absurd (none-some f.1 (sym (ap (λ k. find nat_cmp k es) (tied f.0 e.0 t) ∙ none) ∙ f.2))
      | false ↦ λ t. f.2
    ] refl,
    f.3,
  )

  any_in : (p : ℕ × X → Bool) (es : List (ℕ × X)) → HasEachOnce es → list_any p es ≡ true → Found p (λ q. find nat_cmp q es)
  any_in p [] once is = absurd (both_ways false refl is)
  any_in p (e ∷ es) once is =
      elim (p e) as (λ b. p e ≡ b → (b || list_any p es) ≡ true → Found p (λ q. find nat_cmp q (e ∷ es))) [
        | true ↦ λ t is. (e.0, e.1, ap (λ b. cond b (Some e.1) (find nat_cmp e.0 es)) (tied_itself e.0), t)
        | false ↦ λ t is. found_later p e es once.0 (any_in p es once.1 is)
      ] refl is

  -- ---- of a map

  -- if the entry at a key passes a test, some entry passes it
  pub some_entry : (p : ℕ × X → Bool) (m : FinMap nat_cmp X) (q : ℕ) (v : X) → get m q ≡ Some v → p (q, v) ≡ true → list_any p (entries m) ≡ true
  some_entry p m q v there is = any_at p (entries m) q v (sym (get-entries m q) ∙ there) is

  -- if no entry passes a test, that at a key does not
  pub no_entry : (p : ℕ × X → Bool) (m : FinMap nat_cmp X) (q : ℕ) (v : X) → list_any p (entries m) ≡ false → get m q ≡ Some v → p (q, v) ≡ true → ⊥
  no_entry p m q v none there is = both_ways _ none (some_entry p m q v there is)

  -- if some entry passes a test, there is one at a key that passes
  pub entry_found : (p : ℕ × X → Bool) (m : FinMap nat_cmp X) → list_any p (entries m) ≡ true → Found p (get m)
  entry_found p m is =
      let f = any_in p (entries m) (entries_once m) is in
      (f.0, f.1, get-entries m f.0 ∙ f.2, f.3)

  any_mapped : (p : X → Bool) (es : List (ℕ × X)) → list_any p (list_map (λ e. e.1) es) ≡ list_any (λ e. p e.1) es
  any_mapped p [] = refl
  any_mapped p (e ∷ es) = ap (λ b. p e.1 || b) (any_mapped p es)

  -- a test passes a value of the map exactly if it passes the value of an entry
  pub any_value : (p : X → Bool) (m : FinMap nat_cmp X) → list_any p (values m) ≡ list_any (λ e. p e.1) (entries m)
  any_value p m = any_mapped p (entries m)
