-- Tests of all entries of a finite map.
use Rattle.std.proofs.Common.{◌≡◌, ℕ, Bool, true, false, cond, ◌||◌, ◌&&◌, List, [], ◌∷◌, T, refl, sym, ap, ◌∙◌}
use Rattle.std.specs.Prelude.{Some}
use Rattle.std.specs.List.{list_any}
use Rattle.std.specs.declared.cmp.Ordering.{Ordering}
use Rattle.std.specs.declared.cmp.Ordering.TheVariants.{Less, Equal, Greater}
use Rattle.std.specs.Ordering.{nat_cmp, is_lt, is_eq, eq_by_cmp}
use Rattle.std.specs.FinMap.{FinMap, entries, entries_sorted, get, get-entries}
use Rattle.std.specs.FinMap.Entries.{find, below_all, is_sorted}
use Rattle.std.proofs.lemmas.Bool.{eqb-true, eq-eqb}
use Rattle.rk_table.proofs.Entries.{tie}
use Rattle.rk_machine.proofs.Found.Refusals.{or_left, or_right}
use Rattle.rk_machine.proofs.Found.Options.{some_same}

both_parts : (a b : Bool) → T (a && b) → T a × T b
both_parts true b h = (tt, h)
both_parts false b h = absurd h

not_both : (o : Ordering) → T (is_lt o) → is_eq o ≡ true → ⊥
not_both Less h e = cc
not_both Equal h e = h
not_both Greater h e = h

-- an entry that passes the test, or none
abbrev Passes : {V : Type 0} → (ℕ × V → Bool) → List (ℕ × V) → Type 0
Passes {V} p es = (k : ℕ) × (v : V) × (find nat_cmp k es ≡ Some v) × (p (k, v) ≡ true)

module _ {V : Type 0} where
  -- what is found among greater keys is not at the key itself
  not_itself : (k : ℕ) (es : List (ℕ × V)) (v : V) → T (below_all nat_cmp k es) → find nat_cmp k es ≡ Some v → ⊥
  not_itself k [] v below is = cc
  not_itself k (e ∷ es) v below is =
      let parts = both_parts (is_lt (nat_cmp k e.0)) _ below in
      elim (eq_by_cmp nat_cmp k e.0) as (λ b. eq_by_cmp nat_cmp k e.0 ≡ b → cond b (Some e.1) (find nat_cmp k es) ≡ Some v → ⊥) [
        | true ↦ λ same _. not_both (nat_cmp k e.0) parts.0 same
        | false ↦ λ _ rest. not_itself k es v parts.1 rest
      ] refl is

  first_found : (e : ℕ × V) (es : List (ℕ × V)) → find nat_cmp e.0 (e ∷ es) ≡ Some e.1
  first_found e es = ap (λ b. cond b (Some e.1) (find nat_cmp e.0 es)) (tie e.0 e.0 ∙ eq-eqb e.0 e.0 refl)

  later_found : (e : ℕ × V) (es : List (ℕ × V)) (k : ℕ) (v : V) → T (below_all nat_cmp e.0 es) → find nat_cmp k es ≡ Some v → find nat_cmp k (e ∷ es) ≡ Some v
  later_found e es k v below is = by_tie (eq_by_cmp nat_cmp k e.0) refl
    where
      by_tie : (b : Bool) → eq_by_cmp nat_cmp k e.0 ≡ b → cond b (Some e.1) (find nat_cmp k es) ≡ Some v
      by_tie true same = absurd (not_itself e.0 es v below (ap (λ n. find nat_cmp n es) (eqb-true e.0 k (sym (tie k e.0) ∙ same)) ∙ is))
      by_tie false other = is

  passes : (p : ℕ × V → Bool) (es : List (ℕ × V)) → T (is_sorted nat_cmp es) → list_any p es ≡ true → Passes p es
  passes p [] sorted h = absurd (cc)
  passes p (e ∷ es) sorted h =
      let parts = both_parts (below_all nat_cmp e.0 es) _ sorted in
      elim (p e) as (λ b. p e ≡ b → (b || list_any p es) ≡ true → Passes p (e ∷ es)) [
        | true ↦ λ is _. (e.0, e.1, first_found e es, is)
        | false ↦ λ _ rest. let f = passes p es parts.1 rest in (f.0, f.1, later_found e es f.0 f.1 parts.0 f.2, f.3)
      ] refl h

  fails : (p : ℕ × V → Bool) (es : List (ℕ × V)) → list_any p es ≡ false → (k : ℕ) (v : V) → find nat_cmp k es ≡ Some v → p (k, v) ≡ false
  fails p [] h k v is = absurd (cc)
  fails p (e ∷ es) h k v is =
      elim (eq_by_cmp nat_cmp k e.0) as (λ b. eq_by_cmp nat_cmp k e.0 ≡ b → cond b (Some e.1) (find nat_cmp k es) ≡ Some v → p (k, v) ≡ false) [
        | true ↦ λ same here. (λ i. p (sym (eqb-true e.0 k (sym (tie k e.0) ∙ same)) i, sym (some_same here) i)) ∙ or_left (p e) _ h
        | false ↦ λ _ rest. fails p es (or_right (p e) _ h) k v rest
      ] refl is

  -- what passes a test of all entries is found in the map
  pub some_entry : (p : ℕ × V → Bool) (m : FinMap nat_cmp V) → list_any p (entries m) ≡ true → (k : ℕ) × (v : V) × (get m k ≡ Some v) × (p (k, v) ≡ true)
  some_entry p m h = let f = passes p (entries m) (entries_sorted m) h in (f.0, f.1, get-entries m f.0 ∙ f.2, f.3)

  -- if no entry of a map passes a test, none that is found does
  pub no_entry : (p : ℕ × V → Bool) (m : FinMap nat_cmp V) → list_any p (entries m) ≡ false → (k : ℕ) (v : V) → get m k ≡ Some v → p (k, v) ≡ false
  no_entry p m h k v is = fails p (entries m) h k v (sym (get-entries m k) ∙ is)
