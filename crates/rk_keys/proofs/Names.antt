-- Names: which keys have one, and which number it has.
use Rattle.rk_keys.proofs.Words.{◌∙◌, ap, ◌≡◌, refl, sym, ℕ, false, List, true, inl, inr, ◌||◌, ◌&&◌, or-true, both_ways, eq-eqb, ne_eqb, and_parts, and_from}
use Rattle.rk_keys.proofs.Words.{bytes_eq-Decides, nat_cmp_total, same_answer, nat_cmp, eq_by_cmp, Some, None, Option, unwrap_or, option_map, ◌==◌, IfSome}
use Rattle.rk_keys.proofs.Words.{bytes_eq, passing, tie, has_name, have_one_name, is_named, Known, IsHeld, IsNaming, IsNumberFor, Drawn, Key}
use Rattle.std.specs.FinMap as map
use Rattle.std.specs.FinSet as set

bytes_eq-sym : (xs ys : List ℕ) → bytes_eq xs ys ≡ bytes_eq ys xs
bytes_eq-sym xs ys =
    same_answer (bytes_eq xs ys) (bytes_eq ys xs)
    (λ e. (bytes_eq-Decides ys xs).1 (sym ((bytes_eq-Decides xs ys).0 e)))
    (λ e. (bytes_eq-Decides xs ys).1 (sym ((bytes_eq-Decides ys xs).0 e)))

-- whether two keys have one name does not depend on their order
pub have_one_name-sym : (a b : Key) → have_one_name a b ≡ have_one_name b a
have_one_name-sym a b =
    ap (λ t. t && bytes_eq a.description b.description) (bytes_eq-sym a.typ b.typ)
    ∙ ap (λ t. bytes_eq b.typ a.typ && t) (bytes_eq-sym a.description b.description)

-- a key has one name with itself
pub have_one_name-refl : (a : Key) → have_one_name a a ≡ true
have_one_name-refl a = and_from _ _ ((bytes_eq-Decides a.typ a.typ).1 refl) ((bytes_eq-Decides a.description a.description).1 refl)

-- keys with the bytes of another have its name
pub have_one_name-same : (a b c d : Key) → a.typ ≡ c.typ → a.description ≡ c.description → b.typ ≡ d.typ → b.description ≡ d.description →
    have_one_name a b ≡ have_one_name c d
have_one_name-same a b c d at ad bt bd =
    ap (λ t. bytes_eq t b.typ && bytes_eq a.description b.description) at
    ∙ ap (λ t. bytes_eq c.typ b.typ && bytes_eq t b.description) ad
    ∙ ap (λ t. bytes_eq c.typ t && bytes_eq c.description b.description) bt
    ∙ ap (λ t. bytes_eq c.typ d.typ && bytes_eq c.description t) bd

-- a number that this key shares with those of its name, and with no other
pub record SharesNumber (keys : map.FinMap nat_cmp Key) (numbers : map.FinMap nat_cmp ℕ) (key : Key) (n : ℕ) : Type 0 where
  pub each : (q : ℕ) (b : Key) (m : ℕ) → map.get keys q ≡ Some b → map.get numbers q ≡ Some m → (n == m) ≡ have_one_name key b

-- the number of a live key of the name
pub number_of_name : (keys : map.FinMap nat_cmp Key) (numbers : map.FinMap nat_cmp ℕ) (key : Key) (k n : ℕ) → IsNaming keys numbers
    → has_name keys k key.typ key.description ≡ true → map.get numbers k ≡ Some n → SharesNumber keys numbers key n
number_of_name keys numbers key k n naming named is = record {
  each = λ q b m gb gm.
      let found = passing (is_named key.typ key.description) (map.get keys k) named in
      let same = and_parts (bytes_eq found.0.typ key.typ) (bytes_eq found.0.description key.description) found.2 in
      naming.shared k q found.0 b n m found.1 gb is gm
      ∙ have_one_name-same found.0 b key b ((bytes_eq-Decides found.0.typ key.typ).0 same.0) ((bytes_eq-Decides found.0.description key.description).0 same.1)
      refl refl;
}

-- a serial that was never drawn, where no live key has the name
pub number_of_new_name : (known : Known) (key : Key) (k : ℕ) → IsHeld known → set.contains known.serials.used k ≡ false
    → ((q : ℕ) → has_name known.keys q key.typ key.description ≡ false) → SharesNumber known.keys known.numbers key k
number_of_new_name known key k held unused none = record {
  each = λ q b m gb gm.
      ne_eqb k m (λ same. both_ways _ unused (ap (set.contains known.serials.used) same ∙ held.numbered q m gm))
      ∙ sym (none q) ∙ ap (λ o. unwrap_or (option_map (is_named key.typ key.description) o) false) gb
      ∙ have_one_name-sym b key;
}

-- ---- what a draw leaves drawn

-- a serial that was drawn stays so where another is drawn
pub stays_drawn : (d : Drawn) (k q : ℕ) → set.contains d.used q ≡ true → set.contains (set.insert d.used k) q ≡ true
stays_drawn d k q e = set.contains-insert nat_cmp_total d.used k q ∙ ap (λ b. eq_by_cmp nat_cmp q k || b) e ∙ or-true _

just_drawn : (d : Drawn) (k : ℕ) → set.contains (set.insert d.used k) k ≡ true
just_drawn d k = set.contains-insert nat_cmp_total d.used k k ∙ ap (λ b. b || set.contains d.used k) (tie k k ∙ eq-eqb k k refl)

-- ---- the number of a new key

-- the number of a new key: that of its name, else its own serial
pub number_of_new : (known : Known) (key : Key) (k : ℕ) (o : Option ℕ) → IsHeld known → set.contains known.serials.used k ≡ false
    → (o ≡ None → (q : ℕ) → has_name known.keys q key.typ key.description ≡ false)
    → IfSome o (λ n. (q : ℕ) × (has_name known.keys q key.typ key.description ≡ true) × (map.get known.numbers q ≡ Some n))
    → SharesNumber known.keys known.numbers key (unwrap_or o k) × (set.contains (set.insert known.serials.used k) (unwrap_or o k) ≡ true)
number_of_new known key k None held unused none some = (number_of_new_name known key k held unused (none refl), just_drawn known.serials k)
number_of_new known key k (Some n) held unused none some = (
  number_of_name known.keys known.numbers key some.0 n held.naming some.1 some.2,
  stays_drawn known.serials k n (held.numbered some.0 n some.2),
)

-- a new key gets the number of the keys of its name, or its own serial if there are none
pub number_for_new : (known : Known) (typ description : List ℕ) (k : ℕ) (o : Option ℕ) → (o ≡ None → (q : ℕ) → has_name known.keys q typ description ≡ false)
    → IfSome o (λ n. (q : ℕ) × (has_name known.keys q typ description ≡ true) × (map.get known.numbers q ≡ Some n))
    → IsNumberFor known typ description k (Some (unwrap_or o k))
number_for_new known typ description k None none some = inr (none refl, refl)
number_for_new known typ description k (Some n) none some = inl (some.0, some.1, some.2)
