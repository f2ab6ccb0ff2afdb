-- One count changed.
use Rattle.rk_table.proofs.Words.{◌∙◌, ap, sym, ◌≡◌, cond, ℕ, refl, true, false, arith, ◌<◌, inl, inr, eq-eqb, ne_eqb, cases_eq, none-some, same_Some, nat_cmp}
use Rattle.rk_table.proofs.Words.{Some, None, nat_eq, Option, is_some, option_map, unwrap_or, count_at, ArePositive, changed_at}
use Rattle.std.specs.FinMap as map
use Rattle.rk_table.proofs.Entries.{of_choice}
use Rattle.rk_table.proofs.Gets.{get_changed_at, get_inserted, get_removed}

-- a count that is put at k is the count there, and every other stays
pub count_put : (m : map.FinMap nat_cmp ℕ) (k n q : ℕ) → count_at (map.insert m k n) q ≡ cond (nat_eq k q) n (count_at m q)
count_put m k n q =
    ap (λ o. unwrap_or o 0) (get_inserted m k n q) ∙ of_choice (λ o. unwrap_or o 0) (nat_eq k q) (Some n) (map.get m q)

-- a count that is removed is 0, and every other stays
pub count_out : (m : map.FinMap nat_cmp ℕ) (k q : ℕ) → count_at (map.remove m k) q ≡ cond (nat_eq k q) 0 (count_at m q)
count_out m k q =
    ap (λ o. unwrap_or o 0) (get_removed m k q) ∙ of_choice (λ o. unwrap_or o 0) (nat_eq k q) None (map.get m q)

-- a count above 0 is held
pub has_count : (o : Option ℕ) → 0 < unwrap_or o 0 → is_some o ≡ true
has_count None h = absurd (omega arith)
has_count (Some m) h = refl

had : (n : ℕ) (o : Option ℕ) → is_some o ≡ true → unwrap_or (option_map (λ _. n) o) 0 ≡ n
had n None h = absurd (cc)
had n (Some m) h = refl

-- a count that is there becomes another
pub count_become : (m : map.FinMap nat_cmp ℕ) (k n q : ℕ) → is_some (map.get m k) ≡ true → count_at (changed_at k (λ _. n) m) q ≡ cond (nat_eq k q) n (count_at m q)
count_become m k n q h =
    ap (λ o. unwrap_or o 0) (get_changed_at k (λ _. n) m q) ∙ elim (cases_eq k q) [
      | inl e ↦
          ap (λ b. unwrap_or (cond b (option_map (λ _. n) (map.get m q)) (map.get m q)) 0) (eq-eqb k q e)
          ∙ had n (map.get m q) (ap (λ u. is_some (map.get m u)) (sym e) ∙ h)
          ∙ sym (ap (λ b. cond b n (count_at m q)) (eq-eqb k q e))
      | inr ne ↦
          ap (λ b. unwrap_or (cond b (option_map (λ _. n) (map.get m q)) (map.get m q)) 0) (ne_eqb k q ne)
          ∙ sym (ap (λ b. cond b n (count_at m q)) (ne_eqb k q ne))
    ]

-- a count that is a function of the one before
pub count_by : (m : map.FinMap nat_cmp ℕ) (f : ℕ → ℕ) (k n q : ℕ) → n ≡ f (count_at m k) → cond (nat_eq k q) n (count_at m q) ≡ cond (nat_eq k q) (f (count_at m q)) (count_at m q)
count_by m f k n q is = elim (cases_eq k q) [
  | inl e ↦ ap (λ c. cond (nat_eq k q) c (count_at m q)) (is ∙ ap (λ u. f (count_at m u)) e)
  | inr ne ↦ ap (λ b. cond b n (count_at m q)) (ne_eqb k q ne) ∙ sym (ap (λ b. cond b (f (count_at m q)) (count_at m q)) (ne_eqb k q ne))
]

-- ---- counts that are held are positive

-- no count of the empty map is 0
pub positive_empty : ArePositive map.empty
positive_empty k n is = absurd (none-some n (sym (map.get-empty nat_cmp k) ∙ is))

-- no count is 0 after one above 0 is put
pub positive_put : (m : map.FinMap nat_cmp ℕ) (k n : ℕ) → 0 < n → ArePositive m → ArePositive (map.insert m k n)
positive_put m k n some all q x is = elim (nat_eq k q) as (λ b. cond b (Some n) (map.get m q) ≡ Some x → 0 < x) [
  | true ↦ λ e. let same : n ≡ x = same_Some n x e in omega (arith, same, some)
  | false ↦ λ e. all q x e
] (sym (get_inserted m k n q) ∙ is)

-- no count is 0 after one is removed
pub positive_out : (m : map.FinMap nat_cmp ℕ) (k : ℕ) → ArePositive m → ArePositive (map.remove m k)
positive_out m k all q x is = elim (nat_eq k q) as (λ b. cond b None (map.get m q) ≡ Some x → 0 < x) [
  | true ↦ λ e. absurd (none-some x e)
  | false ↦ λ e. all q x e
] (sym (get_removed m k q) ∙ is)

become : (n x : ℕ) (o : Option ℕ) → 0 < n → option_map (λ (_ : ℕ). n) o ≡ Some x → 0 < x
become n x None some e = absurd (none-some x e)
become n x (Some y) some e = let same : n ≡ x = same_Some n x e in omega (arith, same, some)

-- no count is 0 after one becomes another above 0
pub positive_become : (m : map.FinMap nat_cmp ℕ) (k n : ℕ) → 0 < n → ArePositive m → ArePositive (changed_at k (λ _. n) m)
positive_become m k n some all q x is = elim (nat_eq k q) as (λ b. cond b (option_map (λ (_ : ℕ). n) (map.get m q)) (map.get m q) ≡ Some x → 0 < x) [
  | true ↦ λ e. become n x (map.get m q) some e
  | false ↦ λ e. all q x e
] (sym (get_changed_at k (λ _. n) m q) ∙ is)
