-- How many keys have each name, and their number: what it tells, and what keeps it through each change.
use Rattle.rk_keys.proofs.Words.{◌∙◌, ap, ◌≡◌, refl, sym, ℕ, ◌<◌, false, cond, arith, List, ◌-◌, ◌≤◌, true, Bool, ◌+◌, suc, inl, inr, not, zero, [], ◌∷◌, ◌&&◌}
use Rattle.rk_keys.proofs.Words.{length, both_ways, eq-eqb, ne_eqb, cases_eq, false_from_ne_true, true_from_ne_false, nat_tests, none-some, same_Some}
use Rattle.rk_keys.proofs.Words.{nat_cmp_total, option_map_or, nat_cmp, Some, None, Option, nat_eq, unwrap_or, is_some, option_map, list_find, nat_le, IfSome}
use Rattle.rk_keys.proofs.Words.{passing, tie, get_changed_at, at_new, taken_out, at_other, left_in, get_kept_where, none_kept, kept_len-empty, kept_len-insert}
use Rattle.rk_keys.proofs.Words.{kept_len-remove, kept_len-remove_none, kept_len-changed, changed_at, kept_where, is_of, kept_of, counted_in, name_hash}
use Rattle.rk_keys.proofs.Words.{is_same, count_of, counted_out, IsIndex, number_in, keys_named, has_name, is_named, Known, IsHeld, Key, Named}
use Rattle.std.specs.FinMap as map
use Rattle.std.specs.FinSet as set
use Rattle.rk_keys.proofs.Held.{KeepsName}
use Rattle.rk_keys.proofs.Kept.{same_names}

abbrev Keys : Type 0
Keys = map.FinMap nat_cmp Key

abbrev Numbers : Type 0
Numbers = map.FinMap nat_cmp ℕ

abbrev Buckets : Type 0
Buckets = map.FinMap nat_cmp (List Named)

abbrev of_name : List ℕ → List ℕ → ℕ → Key → Bool
of_name typ description k key = is_named typ description key

-- ---- entries of a map

at_first : (m : Keys) (e : ℕ × Key) (es : List (ℕ × Key)) → map.entries m ≡ e ∷ es → map.get m e.0 ≡ Some e.1
at_first m e es is =
    map.get-entries m e.0 ∙ ap (map.find nat_cmp e.0) is
    ∙ ap (λ b. cond b (Some e.1) (map.find nat_cmp e.0 es)) (tie e.0 e.0 ∙ eq-eqb e.0 e.0 refl)

-- ---- there are no more keys than were drawn

-- each key was drawn
AreDrawn : Keys → set.FinSet nat_cmp → Type 0
AreDrawn m s = (k : ℕ) → set.contains s k ≡ false → map.get m k ≡ None

still_drawn : (m : Keys) (s : set.FinSet nat_cmp) (q : ℕ) → AreDrawn m s → AreDrawn (map.remove m q) (set.remove s q)
unfolding AreDrawn
still_drawn m s q drawn k out = elim (cases_eq k q) [
  | inl same ↦ taken_out m q k same
  | inr ne ↦ left_in m q k ne ∙ drawn k (
      ap (λ b. not b && set.contains s k) (sym (tie k q ∙ ne_eqb q k (λ same. ne (sym same)))) ∙ sym (set.contains-remove nat_cmp_total s q k) ∙ out
      )
]

not_empty : (s : set.FinSet nat_cmp) (k x : ℕ) → set.len s ≡ x → set.contains s k ≡ true → 0 < x
not_empty s k zero is drawn = absurd (both_ways _ (ap (λ t. set.contains t k) (set.empty_of_len s is) ∙ set.contains-empty nat_cmp k) drawn)
not_empty s k (suc x) is drawn = omega arith

one_more : (n : ℕ) (m : Keys) (s : set.FinSet nat_cmp) → map.len m ≡ suc n → AreDrawn m s
    → ((q : ℕ) → map.len (map.remove m q) ≡ n → n ≤ set.len (set.remove s q)) → (es : List (ℕ × Key)) → map.entries m ≡ es → suc n ≤ set.len s
unfolding AreDrawn
one_more n m s long drawn rest [] is = let none = map.len-entries m ∙ ap length is in absurd (omega (arith, long, none))
one_more n m s long drawn rest (e ∷ es) is =
    let there : map.get m e.0 ≡ Some e.1 = at_first m e es is in
    let its : set.contains s e.0 ≡ true = true_from_ne_false _ (λ out. none-some e.1 (sym (drawn e.0 out) ∙ there)) in
    let fewer : map.len (map.remove m e.0) ≡ map.len m - 1 = map.len-remove nat_cmp_total m e.0 ∙
    ap (λ o. cond (is_some o) (map.len m - 1) (map.len m)) there in
    let left : set.len (set.remove s e.0) ≡ set.len s - 1 = set.len-remove nat_cmp_total s e.0 ∙ ap (λ b. cond b (set.len s - 1) (set.len s)) its in
    let some : 0 < set.len s = not_empty s e.0 (set.len s) refl its in
    let others : n ≤ set.len (set.remove s e.0) = rest e.0 (omega (arith, fewer, long)) in
    omega (arith, others, left, some)

no_more : (n : ℕ) (m : Keys) (s : set.FinSet nat_cmp) → map.len m ≡ n → AreDrawn m s → n ≤ set.len s
no_more zero m s long drawn = omega arith
no_more (suc n) m s long drawn =
    one_more n m s long drawn (λ q fewer. no_more n (map.remove m q) (set.remove s q) fewer (still_drawn m s q drawn)) (map.entries m) refl

-- ---- how many keys have a name

-- no more than serials were drawn
pub few_named : (known : Known) (typ description : List ℕ) → IsHeld known → keys_named known.keys typ description ≤ set.len known.serials.used
unfolding AreDrawn
few_named known typ description held =
    no_more _ (kept_where (of_name typ description) known.keys) known.serials.used refl
    (λ k out. none_kept (of_name typ description) known.keys k (held.drawn k out))

-- if none has it, no key has it
none_named : (keys : Keys) (typ description : List ℕ) → keys_named keys typ description ≡ 0 → (k : ℕ) → has_name keys k typ description ≡ false
none_named keys typ description none k = false_from_ne_true _ (λ named.
    let key = passing (is_named typ description) (map.get keys k) named in
    let p : ℕ → Key → Bool = of_name typ description in
    none-some key.0 (
    sym (map.get-empty nat_cmp k)
    ∙ ap (λ m. map.get m k) (sym (map.empty_of_len (kept_where p keys) none))
    ∙ get_kept_where p keys k
    ∙ ap (λ (o : Option Key). cond (option_map_or (p k) o false) o None) key.1
    ∙ ap (λ b. cond b (Some key.0) None) key.2
    ))

-- if some has it, there is one
some_named : (keys : Keys) (typ description : List ℕ) → 0 < keys_named keys typ description → (k : ℕ) × (has_name keys k typ description ≡ true)
some_named keys typ description some = first (map.entries kept) refl where
  p : ℕ → Key → Bool
  p = of_name typ description

  kept : Keys
  kept = kept_where p keys

  is_there : (k : ℕ) (key : Key) (o : Option Key) → cond (option_map_or (p k) o false) o None ≡ Some key →
      unwrap_or (option_map (is_named typ description) o) false ≡ true
  is_there k key None e = absurd (none-some key e)
  is_there k key (Some a) e = elim (is_named typ description a) as (λ b. cond b (Some a) None ≡ Some key → b ≡ true) [
    | true ↦ λ _. refl
    | false ↦ λ e. absurd (none-some key e)
  ] e

  first : (es : List (ℕ × Key)) → map.entries kept ≡ es → (k : ℕ) × (has_name keys k typ description ≡ true)
  first [] is = let none = map.len-entries kept ∙ ap length is in absurd (omega (arith, some, none))
  first (e ∷ es) is = (e.0, is_there e.0 e.1 (map.get keys e.0) (sym (get_kept_where p keys e.0) ∙ at_first kept e es is))

-- ---- what is known of a name

module _ (seed : ℕ) (keys : Keys) (numbers : Numbers) (buckets : Buckets) (index : IsIndex seed keys numbers buckets) (typ description : List ℕ) where
  -- if no number is kept for a name, no key has it
  pub none_of : number_in (kept_of seed buckets typ description) ≡ None → (k : ℕ) → has_name keys k typ description ≡ false
  none_of none = none_named keys typ description (sym (index.counted typ description) ∙ not_kept (kept_of seed buckets typ description) none) where
    not_kept : (o : Option Named) → number_in o ≡ None → count_of o ≡ 0
    not_kept None e = refl
    not_kept (Some n) e = absurd (none-some n.number (sym e))

  -- if a number is kept for a name, some key has that name and that number
  pub some_of : IfSome (number_in (kept_of seed buckets typ description)) (λ n. (k : ℕ) × (has_name keys k typ description ≡ true) ×
      (map.get numbers k ≡ Some n))
  some_of = by_name (kept_of seed buckets typ description) refl where
    by_name : (o : Option Named) → kept_of seed buckets typ description ≡ o → IfSome (number_in o) (λ n. (k : ℕ) × (has_name keys k typ description ≡ true) ×
        (map.get numbers k ≡ Some n))
    by_name None is = tt
    by_name (Some n) is =
        let living : 0 < n.keys = index.living typ description n is in
        let many : n.keys ≡ keys_named keys typ description = ap count_of (sym is) ∙ index.counted typ description in
        let key = some_named keys typ description (omega (arith, living, many)) in
        (key.0, key.1, index.numbered typ description n key.0 is key.1)

-- ---- what keeps it

-- if there are no keys, the index is empty
pub index_empty : (seed : ℕ) → IsIndex seed map.empty map.empty map.empty
index_empty seed = record {
  counted = λ t d. ap count_of (nothing t d) ∙ sym (kept_len-empty (of_name t d));
  living = λ t d n is. absurd (none-some n (sym (nothing t d) ∙ is));
  numbered = λ t d n k is. absurd (none-some n (sym (nothing t d) ∙ is));
} where
  nothing : (t d : List ℕ) → kept_of seed map.empty t d ≡ None
  nothing t d = ap (λ o. list_find (is_of t d) (unwrap_or o [])) (map.get-empty nat_cmp (name_hash seed t d))

module _ (seed : ℕ) (keys : Keys) (numbers : Numbers) (buckets : Buckets) (index : IsIndex seed keys numbers buckets) where
  -- an index that keeps the same of each name is one too
  pub index_same : (new : Buckets) → ((t d : List ℕ) → kept_of seed new t d ≡ kept_of seed buckets t d) → IsIndex seed keys numbers new
  index_same new is = record {
    counted = λ t d. ap count_of (is t d) ∙ index.counted t d;
    living = λ t d n there. index.living t d n (sym (is t d) ∙ there);
    numbered = λ t d n k there. index.numbered t d n k (sym (is t d) ∙ there);
  }

  -- a key is made
  module _ (k : ℕ) (key : Key) (n : ℕ) (new : Buckets) (none : map.get keys k ≡ None)
      (number : n ≡ unwrap_or (number_in (kept_of seed buckets key.typ key.description)) k)
      (is : (t d : List ℕ) → kept_of seed new t d ≡
      cond (is_same key.typ key.description t d) (Some (counted_in key.typ key.description k (kept_of seed buckets t d))) (kept_of seed buckets t d)) where
    counted_more : (t d : List ℕ) (b : Bool) (o : Option Named) →
        count_of (cond b (Some (counted_in key.typ key.description k o)) o) ≡ cond b (count_of o + 1) (count_of o)
    counted_more t d true None = refl
    counted_more t d true (Some m) = refl
    counted_more t d false o = refl

    living_more : (b : Bool) (o : Option Named) → ((m : Named) → o ≡ Some m → 0 < m.keys) → (m : Named) →
        cond b (Some (counted_in key.typ key.description k o)) o ≡ Some m → 0 < m.keys
    living_more true None living m e = let is : 1 ≡ m.keys = ap count_of e in omega (arith, is)
    living_more true (Some x) living m e = let is : x.keys + 1 ≡ m.keys = ap count_of e in omega (arith, is)
    living_more false o living m e = living m e

    -- the number of the new key is that which is kept
    its_number : (t d : List ℕ) → is_same key.typ key.description t d ≡ true → (m : Named) →
        counted_in key.typ key.description k (kept_of seed buckets t d) ≡ m →
        n ≡ m.number
    its_number t d same m e =
        let one = same_names key.typ key.description t d same in
        number
        ∙ ap (λ x. unwrap_or (number_in (kept_of seed buckets x key.description)) k) one.0
        ∙ ap (λ x. unwrap_or (number_in (kept_of seed buckets t x)) k) one.1
        ∙ told (kept_of seed buckets t d) ∙ ap (λ (x : Named). x.number) e
      where
        told : (o : Option Named) → unwrap_or (number_in o) k ≡ (counted_in key.typ key.description k o).number
        told None = refl
        told (Some x) = refl

    -- a key that had a name keeps its number
    numbered_more : (t d : List ℕ) (q : ℕ) → has_name keys q t d ≡ true → (b : Bool) (o : Option Named) → kept_of seed buckets t d ≡ o → (m : Named) →
        cond b (Some (counted_in key.typ key.description k o)) o ≡ Some m → map.get numbers q ≡ Some m.number
    numbered_more t d q named b None at m e =
        absurd (both_ways _ (none_named keys t d (sym (index.counted t d) ∙ ap count_of at) q) named)
    numbered_more t d q named true (Some x) at m e =
        index.numbered t d x q at named ∙ ap (λ (y : Named). Some y.number) (same_Some (record x { keys = x.keys + 1 }) m e)
    numbered_more t d q named false (Some x) at m e = index.numbered t d x q at named ∙ ap (λ (y : Named). Some y.number) (same_Some x m e)

    -- the index is one after a new key is put in with its number
    pub index_with : IsIndex seed (map.insert keys k key) (map.insert numbers k n) new
    index_with = record {
      counted = λ t d.
          ap count_of (is t d) ∙ counted_more t d (is_same key.typ key.description t d) (kept_of seed buckets t d)
          ∙ ap (λ x. cond (is_same key.typ key.description t d) (x + 1) x) (index.counted t d)
          ∙ sym (kept_len-insert (of_name t d) keys k key none);
      living = λ t d m there.
          living_more (is_same key.typ key.description t d) (kept_of seed buckets t d) (index.living t d) m (sym (is t d) ∙ there);
      numbered = λ t d m q there named. elim (cases_eq q k) [
        | inl e ↦
            let same : is_same key.typ key.description t d ≡ true =
            ap (λ o. unwrap_or (option_map (is_named t d) o) false) (sym (at_new keys k key q e)) ∙ named in
            at_new numbers k n q e
            ∙ ap Some (its_number t d same m (same_Some _ m (
            ap (λ b. cond b (Some (counted_in key.typ key.description k (kept_of seed buckets t d))) (kept_of seed buckets t d)) (sym same)
            ∙ sym (is t d) ∙ there
            )))
        | inr ne ↦
            at_other numbers k n q ne
            ∙ numbered_more t d q (ap (λ o. unwrap_or (option_map (is_named t d) o) false) (sym (at_other keys k key q ne)) ∙ named)
            (is_same key.typ key.description t d) (kept_of seed buckets t d) refl m (sym (is t d) ∙ there)
      ];
    }

  -- who has a name when a key is gone had it before, and is another
  still_named : (t d : List ℕ) (k q : ℕ) → has_name (map.remove keys k) q t d ≡ true → (q ≡ k → ⊥) × (has_name keys q t d ≡ true)
  still_named t d k q named = elim (cases_eq q k) [
    | inl e ↦ absurd (both_ways _ (ap (λ o. unwrap_or (option_map (is_named t d) o) false) (taken_out keys k q e)) named)
    | inr ne ↦ (ne, ap (λ o. unwrap_or (option_map (is_named t d) o) false) (sym (left_in keys k q ne)) ∙ named)
  ]

  -- a key is forgotten
  pub index_without : (k : ℕ) (key : Key) (new : Buckets) → map.get keys k ≡ Some key
      → ((t d : List ℕ) → kept_of seed new t d ≡
      cond (is_same key.typ key.description t d) (counted_out (kept_of seed buckets t d)) (kept_of seed buckets t d))
      → IsIndex seed (map.remove keys k) (map.remove numbers k) new
  index_without k key new there is = record {
    counted = λ t d.
        ap count_of (is t d) ∙ counted_less (is_same key.typ key.description t d) (kept_of seed buckets t d)
        ∙ ap (λ x. cond (is_same key.typ key.description t d) (x - 1) x) (index.counted t d)
        ∙ sym (kept_len-remove (of_name t d) keys k key there);
    living = λ t d m at. living_less (is_same key.typ key.description t d) (kept_of seed buckets t d) (index.living t d) m (sym (is t d) ∙ at);
    numbered = λ t d m q at named.
        let before = still_named t d k q named in
        let was = number_kept (is_same key.typ key.description t d) (kept_of seed buckets t d) m (sym (is t d) ∙ at) in
        left_in numbers k q before.0 ∙ index.numbered t d was.0 q was.1 before.1 ∙ ap Some was.2;
  } where
    counted_less : (b : Bool) (o : Option Named) → count_of (cond b (counted_out o) o) ≡ cond b (count_of o - 1) (count_of o)
    counted_less true None = refl
    counted_less true (Some m) = elim (nat_le m.keys 1) as (λ b. nat_le m.keys 1 ≡ b →
        count_of (cond b None (Some (record m { keys = m.keys - 1 }))) ≡ m.keys - 1) [
          | true ↦ λ few. grind (arith, nat_tests, few)
          | false ↦ λ _. refl
        ] refl
    counted_less false o = refl

    living_less : (b : Bool) (o : Option Named) → ((m : Named) → o ≡ Some m → 0 < m.keys) → (m : Named) → cond b (counted_out o) o ≡ Some m → 0 < m.keys
    living_less true None living m e = absurd (none-some m e)
    living_less true (Some x) living m e = elim (nat_le x.keys 1) as (λ b. nat_le x.keys 1 ≡ b →
        cond b None (Some (record x { keys = x.keys - 1 })) ≡ Some m → 0 < m.keys) [
          | true ↦ λ _ e. absurd (none-some m e)
          | false ↦ λ more e. let is : x.keys - 1 ≡ m.keys = ap count_of e in grind (arith, nat_tests, is, more)
        ] refl e
    living_less false o living m e = living m e

    number_kept : (b : Bool) (o : Option Named) (m : Named) → cond b (counted_out o) o ≡ Some m → (x : Named) × (o ≡ Some x) × (x.number ≡ m.number)
    number_kept true None m e = absurd (none-some m e)
    number_kept true (Some x) m e = elim (nat_le x.keys 1) as (λ b. cond b None (Some (record x { keys = x.keys - 1 })) ≡ Some m →
        (y : Named) × (Some x ≡ Some y) × (y.number ≡ m.number)) [
          | true ↦ λ e. absurd (none-some m e)
          | false ↦ λ e. (x, refl, ap (λ (y : Named). y.number) (same_Some (record x { keys = x.keys - 1 }) m e))
        ] e
    number_kept false o m e = (m, e, refl)

  -- no key is forgotten
  pub index_without_none : (k : ℕ) → map.get keys k ≡ None → IsIndex seed (map.remove keys k) (map.remove numbers k) buckets
  index_without_none k none = record {
    counted = λ t d. index.counted t d ∙ sym (kept_len-remove_none (of_name t d) keys k none);
    living = index.living;
    numbered = λ t d m q at named. let before = still_named t d k q named in left_in numbers k q before.0 ∙ index.numbered t d m q at before.1;
  }

  -- a key is changed, and keeps its name
  pub index_changed : (k : ℕ) (f : Key → Key) → KeepsName f → IsIndex seed (changed_at k f keys) numbers buckets
  index_changed k f keeps = record {
    counted = λ t d. index.counted t d ∙ sym (as_many t d);
    living = index.living;
    numbered = λ t d m q at named. index.numbered t d m q at (sym (as_named t d q) ∙ named);
  } where
    its_name : (t d : List ℕ) (a : Key) → is_named t d (f a) ≡ is_named t d a
    its_name t d a = ap (λ x. is_same x (f a).description t d) (keeps a).0 ∙ ap (λ x. is_same a.typ x t d) (keeps a).1

    name_at : (t d : List ℕ) (b : Bool) (o : Option Key) → unwrap_or (option_map (is_named t d) (cond b (option_map f o) o)) false ≡
        unwrap_or (option_map (is_named t d) o) false
    name_at t d true None = refl
    name_at t d true (Some a) = its_name t d a
    name_at t d false o = refl

    as_named : (t d : List ℕ) (q : ℕ) → has_name (changed_at k f keys) q t d ≡ has_name keys q t d
    as_named t d q =
        ap (λ o. unwrap_or (option_map (is_named t d) o) false) (get_changed_at k f keys q) ∙ name_at t d (nat_eq k q) (map.get keys q)

    same_count : (b : Bool) (x y : ℕ) → x + cond b 1 0 ≡ y + cond b 1 0 → x ≡ y
    same_count b x y e = omega (arith, e)

    as_many : (t d : List ℕ) → keys_named (changed_at k f keys) t d ≡ keys_named keys t d
    as_many t d = by_key (map.get keys k) refl where
      by_key : (o : Option Key) → map.get keys k ≡ o → keys_named (changed_at k f keys) t d ≡ keys_named keys t d
      by_key None none = ap (λ o. keys_named (option_map_or (λ v. map.insert keys k (f v)) o keys) t d) none
      by_key (Some key) there =
          same_count (is_named t d key) (keys_named (changed_at k f keys) t d) (keys_named keys t d)
          (kept_len-changed (of_name t d) keys k f key there ∙ ap (λ b. keys_named keys t d + cond b 1 0) (its_name t d key))
