-- The links of a ring by the numbers of their names, through each change.
use Rattle.rk_rings.proofs.Words.{◌∙◌, ap, sym, ◌≡◌, subst, ℕ, cond, false, ◌+◌, refl, true, Bool, ◌-◌, not, inl, inr, eq-eqb, eqb-true, cases_eq, ne_eqb}
use Rattle.rk_rings.proofs.Words.{none-some, same_Some, nat_cmp_total, get, len, insert, remove, empty, FinMap, contains_key, get-empty, len-remove, len-insert}
use Rattle.rk_rings.proofs.Words.{entries, same_map, nat_cmp-IsAntisymmetric, values, list_any, option_map_or, nat_cmp, None, Some, nat_eq, is_some, Option}
use Rattle.rk_rings.proofs.Words.{MatchOption, get_kept_where, at_new, at_other, taken_out, left_in, kept_where, AreByName, IsTurned}
use Rattle.rk_rings.proofs.Finds.{entry_found, some_entry, any_value}

-- ---- what the index tells

-- where nothing is linked, there are no names
pub by_name_empty : (a b : FinMap nat_cmp ℕ) → a ≡ empty → b ≡ empty → AreByName a b
by_name_empty a b is too = record {
  found = λ k n there. absurd (none-some n (sym (ap (λ m. get m k) is ∙ get-empty nat_cmp k) ∙ there));
  linked = λ k n there. absurd (none-some n (sym (ap (λ m. get m k) too ∙ get-empty nat_cmp k) ∙ there));
  as_many = ap len (too ∙ sym is);
}

-- the key at a number is the one whose name has it
pub named : (links by_name : FinMap nat_cmp ℕ) (n : ℕ) (o : Option ℕ) → AreByName links by_name → o ≡ get by_name n
    → MatchOption o ((k : ℕ) → ¬ (get links k ≡ Some n)) (λ k. get links k ≡ Some n)
named links by_name n None index is = λ k there. none-some k (is ∙ index.found k n there)
named links by_name n (Some k) index is = index.linked n k (sym is)

-- some key has a name exactly if one stands at its number
pub number_known : (links by_name : FinMap nat_cmp ℕ) (n : ℕ) → AreByName links by_name → contains_key by_name n ≡ list_any (λ m. nat_eq m n) (values links)
number_known links by_name n index = by_entry (get by_name n) refl ∙ sym (any_value (λ m. nat_eq m n) links)
  where
    by_entry : (o : Option ℕ) → get by_name n ≡ o → is_some (get by_name n) ≡ list_any (λ (e : ℕ × ℕ). nat_eq e.1 n) (entries links)
    by_entry (Some k) is = ap is_some is ∙ sym (some_entry (λ (e : ℕ × ℕ). nat_eq e.1 n) links k n (index.linked n k is) (eq-eqb n n refl))
    by_entry None is = ap is_some is ∙ no_link (list_any (λ (e : ℕ × ℕ). nat_eq e.1 n) (entries links)) refl
      where
        no_link : (b : Bool) → list_any (λ (e : ℕ × ℕ). nat_eq e.1 n) (entries links) ≡ b → false ≡ list_any (λ (e : ℕ × ℕ). nat_eq e.1 n) (entries links)
        no_link false t = sym t
        no_link true t =
            let at = entry_found (λ (e : ℕ × ℕ). nat_eq e.1 n) links t in
            absurd (none-some at.0 (sym is ∙ index.found at.0 n (at.2 ∙ ap (λ m. Some m) (eqb-true at.1 n at.3))))

-- ---- a link is put in or taken out

turned_put : (a b : FinMap nat_cmp ℕ) (k n : ℕ) → IsTurned a b → get b n ≡ None → IsTurned (insert a k n) (insert b n k)
turned_put a b k n h free j m there = elim (cases_eq j k) [
  | inl e ↦
      let same : n ≡ m = same_Some n m (sym (at_new a k n j e) ∙ there) in
      at_new b n k m (sym same) ∙ ap (λ x. Some x) (sym e)
  | inr ne ↦
      let old : get b m ≡ Some j = h j m (sym (at_other a k n j ne) ∙ there) in
      at_other b n k m (λ e. none-some j (sym free ∙ ap (get b) (sym e) ∙ old)) ∙ old
]

turned_out : (a b : FinMap nat_cmp ℕ) (k n : ℕ) → IsTurned a b → get b n ≡ Some k → IsTurned (remove a k) (remove b n)
turned_out a b k n h is j m there = elim (cases_eq j k) [
  | inl e ↦ absurd (none-some m (sym (taken_out a k j e) ∙ there))
  | inr ne ↦
      let old : get b m ≡ Some j = h j m (sym (left_in a k j ne) ∙ there) in
      left_in b n m (λ e. ne (same_Some j k (sym old ∙ ap (get b) e ∙ is))) ∙ old
]

one_more : (m : FinMap nat_cmp ℕ) (k v : ℕ) → get m k ≡ None → len (insert m k v) ≡ len m + 1
one_more m k v none = len-insert nat_cmp_total m k v ∙ ap (λ o. cond (is_some o) (len m) (len m + 1)) none

one_fewer : (m : FinMap nat_cmp ℕ) (k v : ℕ) → get m k ≡ Some v → len (remove m k) ≡ len m - 1
one_fewer m k v is = len-remove nat_cmp_total m k ∙ ap (λ o. cond (is_some o) (len m - 1) (len m)) is

pub by_name_put : (a b : FinMap nat_cmp ℕ) (k n : ℕ) → AreByName a b → get a k ≡ None → get b n ≡ None → AreByName (insert a k n) (insert b n k)
by_name_put a b k n h new free = record {
  found = turned_put a b k n h.found free;
  linked = turned_put b a n k h.linked new;
  as_many = one_more b n k free ∙ ap (λ x. x + 1) h.as_many ∙ sym (one_more a k n new);
}

-- the names are those of the links after a key and its name are removed
pub by_name_out : (a b : FinMap nat_cmp ℕ) (k n : ℕ) → AreByName a b → get a k ≡ Some n → AreByName (remove a k) (remove b n)
by_name_out a b k n h is = record {
  found = turned_out a b k n h.found (h.found k n is);
  linked = turned_out b a n k h.linked is;
  as_many = one_fewer b n k (h.found k n is) ∙ ap (λ x. x - 1) h.as_many ∙ sym (one_fewer a k n is);
}

-- ---- another key gives way

-- only one key has the name
pub kept_rival : (a b : FinMap nat_cmp ℕ) (r n : ℕ) → AreByName a b → get b n ≡ Some r → remove a r ≡ kept_where (λ j m. not (nat_eq m n)) a
kept_rival a b r n h is = same_map nat_cmp_total nat_cmp-IsAntisymmetric _ _ (λ q. elim (cases_eq q r) [
  | inl e ↦
      taken_out a r q e ∙ sym (ap (λ (o : Option ℕ). cond (option_map_or (λ m. not (nat_eq m n)) o false) o None) (ap (get a) e ∙ h.linked n r is)
      ∙ ap (λ b. cond (not b) (Some n) None) (eq-eqb n n refl)) ∙ sym (get_kept_where (λ j m. not (nat_eq m n)) a q)
  | inr ne ↦ left_in a r q ne ∙ by_link q ne (get a q) refl ∙ sym (get_kept_where (λ j m. not (nat_eq m n)) a q)
])
  where
    by_link : (q : ℕ) → (q ≡ r → ⊥) → (o : Option ℕ) → get a q ≡ o → get a q ≡ cond (option_map_or (λ m. not (nat_eq m n)) (get a q) false) (get a q) None
    by_link q ne None at = at ∙ sym (ap (λ (o : Option ℕ). cond (option_map_or (λ m. not (nat_eq m n)) o false) o None) at)
    by_link q ne (Some m) at =
        at ∙ sym (ap (λ (o : Option ℕ). cond (option_map_or (λ m. not (nat_eq m n)) o false) o None) at
        ∙ ap (λ b. cond (not b) (Some m) None) (ne_eqb m n (λ e. ne (same_Some q r (sym (h.found q m at) ∙ ap (get b) e ∙ is)))))

-- no key has the name
pub kept_all : (a b : FinMap nat_cmp ℕ) (n : ℕ) → AreByName a b → get b n ≡ None → a ≡ kept_where (λ j m. not (nat_eq m n)) a
kept_all a b n h is = same_map nat_cmp_total nat_cmp-IsAntisymmetric _ _ (λ q. by_link q (get a q) refl ∙ sym (get_kept_where (λ j m. not (nat_eq m n)) a q))
  where
    by_link : (q : ℕ) (o : Option ℕ) → get a q ≡ o → get a q ≡ cond (option_map_or (λ m. not (nat_eq m n)) (get a q) false) (get a q) None
    by_link q None at = at ∙ sym (ap (λ (o : Option ℕ). cond (option_map_or (λ m. not (nat_eq m n)) o false) o None) at)
    by_link q (Some m) at =
        at ∙ sym (ap (λ (o : Option ℕ). cond (option_map_or (λ m. not (nat_eq m n)) o false) o None) at
        ∙ ap (λ b. cond (not b) (Some m) None) (ne_eqb m n (λ e. none-some q (sym is ∙ ap (get b) (sym e) ∙ h.found q m at))))

-- the name stands for another key
renamed : (b : FinMap nat_cmp ℕ) (n k : ℕ) → insert b n k ≡ insert (remove b n) n k
renamed b n k = same_map nat_cmp_total nat_cmp-IsAntisymmetric _ _ (λ q. elim (cases_eq q n) [
  | inl e ↦ at_new b n k q e ∙ sym (at_new (remove b n) n k q e)
  | inr ne ↦ at_other b n k q ne ∙ sym (at_other (remove b n) n k q ne ∙ left_in b n q ne)
])

none_of : (b : Bool) (o : Option ℕ) → is_some o ≡ false → o ≡ None
none_of b None h = refl
none_of b (Some x) h = absurd (cc)

-- the names are those of the links after a new key takes the place of the one of its name
pub by_name_given : (a b : FinMap nat_cmp ℕ) (r k n : ℕ) → AreByName a b → get b n ≡ Some r → contains_key a k ≡ false →
    AreByName (insert (remove a r) k n) (insert b n k)
by_name_given a b r k n h is lacks =
    let none : get a k ≡ None = none_of true (get a k) lacks in
    subst (AreByName (insert (remove a r) k n)) (sym (renamed b n k)) (by_name_put (remove a r) (remove b n) k n (by_name_out a b r n h (h.linked n r is))
    (elim (cases_eq k r) [ inl e ↦ taken_out a r k e | inr ne ↦ left_in a r k ne ∙ none ]) (taken_out b n n refl))

-- the names are those of the links after a key with a new name is linked
pub by_name_new : (a b : FinMap nat_cmp ℕ) (k n : ℕ) → AreByName a b → get b n ≡ None → contains_key a k ≡ false → AreByName (insert a k n) (insert b n k)
by_name_new a b k n h free lacks = by_name_put a b k n h (none_of true (get a k) lacks) free

-- removing a key that is not there leaves the map
pub nothing_out : (m : FinMap nat_cmp ℕ) (k : ℕ) → get m k ≡ None → m ≡ remove m k
nothing_out m k none = same_map nat_cmp_total nat_cmp-IsAntisymmetric _ _ (λ q. elim (cases_eq q k) [
  | inl e ↦ ap (get m) e ∙ none ∙ sym (taken_out m k q e)
  | inr ne ↦ sym (left_in m k q ne)
])
