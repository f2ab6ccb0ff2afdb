-- What is found in a map after a change.
use Rattle.rk_table.proofs.Words.{◌∙◌, ap, sym, ◌≡◌, cond, ℕ, refl, true, false, Bool, eq-eqb, ne_eqb, eqb-true, nat_cmp_total, FinMap, get}
use Rattle.rk_table.proofs.Words.{nat_cmp-IsAntisymmetric, insert, remove, get-retain_keys, get-remove, get-insert, contains_key, option_map_or, nat_cmp, Some}
use Rattle.rk_table.proofs.Words.{None, nat_eq, Option, is_some, option_map, changed_at, kept_where}
use Rattle.rk_table.proofs.Entries.{tie}

module _ {V : Type 0} where
  -- with an entry put in
  pub get_inserted : (m : FinMap nat_cmp V) (k : ℕ) (v : V) (q : ℕ) → get (insert m k v) q ≡ cond (nat_eq k q) (Some v) (get m q)
  get_inserted m k v q = get-insert nat_cmp_total m k v q ∙ ap (λ b. cond b (Some v) (get m q)) (tie q k)

  -- with an entry taken out
  pub get_removed : (m : FinMap nat_cmp V) (k q : ℕ) → get (remove m k) q ≡ cond (nat_eq k q) None (get m q)
  get_removed m k q = get-remove nat_cmp_total m k q ∙ ap (λ b. cond b None (get m q)) (tie q k)

  -- what is inserted is found at its key
  pub at_new : (m : FinMap nat_cmp V) (k : ℕ) (v : V) (q : ℕ) → q ≡ k → get (insert m k v) q ≡ Some v
  at_new m k v q e = get_inserted m k v q ∙ ap (λ b. cond b (Some v) (get m q)) (eq-eqb k q (sym e))

  -- what is inserted at one key leaves what is found at another
  pub at_other : (m : FinMap nat_cmp V) (k : ℕ) (v : V) (q : ℕ) → (q ≡ k → ⊥) → get (insert m k v) q ≡ get m q
  at_other m k v q ne = get_inserted m k v q ∙ ap (λ b. cond b (Some v) (get m q)) (ne_eqb k q (λ e. ne (sym e)))

  -- removing one key leaves what is found at another
  pub left_in : (m : FinMap nat_cmp V) (k q : ℕ) → (q ≡ k → ⊥) → get (remove m k) q ≡ get m q
  left_in m k q ne = get_removed m k q ∙ ap (λ b. cond b None (get m q)) (ne_eqb k q (λ e. ne (sym e)))

  -- nothing is found at a key that was removed
  pub taken_out : (m : FinMap nat_cmp V) (k q : ℕ) → q ≡ k → get (remove m k) q ≡ None
  taken_out m k q e = get_removed m k q ∙ ap (λ b. cond b None (get m q)) (eq-eqb k q (sym e))

  at_value : (k : ℕ) (f : V → V) (m : FinMap nat_cmp V) (q : ℕ) (o : Option V) → get m k ≡ o
      → get (option_map_or (λ v. insert m k (f v)) o m) q ≡ cond (nat_eq k q) (option_map f (get m q)) (get m q)
  at_value k f m q None none =
      elim (nat_eq k q) as (λ b. nat_eq k q ≡ b → get m q ≡ cond b (option_map f (get m q)) (get m q)) [
        | true ↦ λ same.
            let here : get m q ≡ None = ap (get m) (sym (eqb-true k q same)) ∙ none in
            here ∙ ap (option_map f) (sym here)
        | false ↦ λ _. refl
      ] refl
  at_value k f m q (Some v) is =
      get_inserted m k (f v) q
      ∙ elim (nat_eq k q) as (λ b. nat_eq k q ≡ b → cond b (Some (f v)) (get m q) ≡ cond b (option_map f (get m q)) (get m q)) [
        | true ↦ λ same. ap (option_map f) (sym (ap (get m) (sym (eqb-true k q same)) ∙ is))
        | false ↦ λ _. refl
      ] refl

  -- with the value at one key changed
  pub get_changed_at : (k : ℕ) (f : V → V) (m : FinMap nat_cmp V) (q : ℕ) → get (changed_at k f m) q ≡ cond (nat_eq k q) (option_map f (get m q)) (get m q)
  get_changed_at k f m q = at_value k f m q (get m k) refl

  still_there : (f : V → V) (b : Bool) (o : Option V) → is_some (cond b (option_map f o) o) ≡ is_some o
  still_there f true None = refl
  still_there f true (Some v) = refl
  still_there f false o = refl

  -- a changed value stands at the same key
  pub contains_key_changed_at : (k : ℕ) (f : V → V) (m : FinMap nat_cmp V) (q : ℕ) → contains_key (changed_at k f m) q ≡ contains_key m q
  contains_key_changed_at k f m q = ap is_some (get_changed_at k f m q) ∙ still_there f (nat_eq k q) (get m q)

  -- with the entries left that pass a test
  pub get_kept_where : (p : ℕ → V → Bool) (m : FinMap nat_cmp V) (q : ℕ) → get (kept_where p m) q ≡ cond (option_map_or (p q) (get m q) false) (get m q) None
  get_kept_where p m q =
      let test : ℕ → Bool = λ k. option_map_or (p k) (get m k) false in
      get-retain_keys m test q (λ x t. ap test (sym (nat_cmp-IsAntisymmetric q x t)))

  -- if there was nothing, nothing is kept
  pub none_kept : (p : ℕ → V → Bool) (m : FinMap nat_cmp V) (q : ℕ) → get m q ≡ None → get (kept_where p m) q ≡ None
  none_kept p m q none = get_kept_where p m q ∙ ap (λ (o : Option V). cond (option_map_or (p q) o false) o None) none
