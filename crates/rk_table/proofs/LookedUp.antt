-- The entries of a table that finds its keys by their hashes: what is looked up in them is what their map has.
use Rattle.rk_table.proofs.Words.{◌∙◌, ap, sym, ◌≡◌, cond, ℕ, refl, false, List, [], ◌∷◌, length, nat_cmp_total, unsigned_tied, FinMap, get}
use Rattle.rk_table.proofs.Words.{nat_cmp-IsAntisymmetric, from_entries, insert, find, same_map, remove, len, AllByRecursion, IsDistinct, lookup, keys_of}
use Rattle.rk_table.proofs.Words.{option_map_or, nat_cmp, Some, None, nat_eq, Option, changed_at}
use Rattle.rk_table.proofs.Entries.{get_in}
use Rattle.rk_table.proofs.Gets.{get_inserted, get_removed}
use Rattle.rk_table.proofs.Once.{HasEachOnce, len_once}

module _ {X : Type 0} where
  found : (q : ℕ) (es : List (ℕ × X)) → find nat_cmp q es ≡ lookup (nat_eq q) es
  found q [] = refl
  found q (e ∷ es) = ap (λ b. cond b (Some e.1) (find nat_cmp q es)) (unsigned_tied q e.0) ∙ ap (cond (nat_eq q e.0) (Some e.1)) (found q es)

  -- the map of some entries has at a key what is looked up in them
  pub get_hashed : (es : List (ℕ × X)) (q : ℕ) → get (from_entries {R = nat_cmp} es) q ≡ lookup (nat_eq q) es
  get_hashed es q = get_in es q ∙ found q es

  -- what is looked up in the new list is what is looked up in the old one, but at one key
  abbrev pub LooksUp : ℕ → Option X → List (ℕ × X) → List (ℕ × X) → Type 0
  LooksUp k w old new = (q : ℕ) → lookup (nat_eq q) new ≡ cond (nat_eq k q) w (lookup (nat_eq q) old)

  -- if a value is looked up at k, and all else as before, it is inserted in the map
  pub put_hashed : (old new : List (ℕ × X)) (k : ℕ) (v : X) → LooksUp k (Some v) old new → from_entries {R = nat_cmp} new ≡ insert (from_entries old) k v
  put_hashed old new k v h = same_map nat_cmp_total nat_cmp-IsAntisymmetric _ _ (λ q.
      get_hashed new q ∙ h q ∙ ap (cond (nat_eq k q) (Some v)) (sym (get_hashed old q)) ∙ sym (get_inserted (from_entries old) k v q))

  -- where nothing is looked up at k, and all else as before, k is removed from the map
  pub taken_hashed : (old new : List (ℕ × X)) (k : ℕ) → LooksUp k None old new → from_entries {R = nat_cmp} new ≡ remove (from_entries old) k
  taken_hashed old new k h = same_map nat_cmp_total nat_cmp-IsAntisymmetric _ _ (λ q.
      get_hashed new q ∙ h q ∙ ap (cond (nat_eq k q) None) (sym (get_hashed old q)) ∙ sym (get_removed (from_entries old) k q))

  at_key : (f : X → X) (m : FinMap nat_cmp X) (k : ℕ) (o : Option X) → get m k ≡ o → option_map_or (λ v. insert m k (f v)) o m ≡ changed_at k f m
  at_key f m k o is = ap (λ p. option_map_or (λ v. insert m k (f v)) p m) (sym is)

  -- if the changed value is looked up at k, and all else as before, it is changed in the map
  pub changed_hashed : (f : X → X) (old new : List (ℕ × X)) (k : ℕ) (v : X) → lookup (nat_eq k) old ≡ Some v → LooksUp k (Some (f v)) old new
      → from_entries {R = nat_cmp} new ≡ changed_at k f (from_entries old)
  changed_hashed f old new k v is h = put_hashed old new k (f v) h ∙ at_key f (from_entries old) k (Some v) (get_hashed old k ∙ is)

  -- a change at a key that is not looked up leaves the map
  pub not_changed_hashed : (f : X → X) (old : List (ℕ × X)) (k : ℕ) → lookup (nat_eq k) old ≡ None → from_entries {R = nat_cmp} old ≡ changed_at k f (from_entries old)
  not_changed_hashed f old k is = at_key f (from_entries old) k None (get_hashed old k ∙ is)

  none_among : (k : ℕ) (es : List (ℕ × X)) → AllByRecursion (λ y. nat_eq k y ≡ false) (keys_of es) → find nat_cmp k es ≡ None
  none_among k [] h = refl
  none_among k (e ∷ es) h = ap (λ b. cond b (Some e.1) (find nat_cmp k es)) (unsigned_tied k e.0 ∙ h.0) ∙ none_among k es h.1

  once_distinct : (es : List (ℕ × X)) → IsDistinct nat_eq (keys_of es) → HasEachOnce es
  unfolding IsDistinct
  once_distinct [] h = tt
  once_distinct (e ∷ es) h = (none_among e.0 es h.0, once_distinct es h.1)

  -- the map of entries with distinct keys has as many as they are
  pub len_distinct : (es : List (ℕ × X)) → IsDistinct nat_eq (keys_of es) → len (from_entries {R = nat_cmp} es) ≡ length es
  len_distinct es h = len_once es (once_distinct es h)
