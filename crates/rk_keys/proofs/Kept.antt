-- What is kept of names: what is found under their hashes after each change.
use Rattle.rk_keys.proofs.Words.{◌∙◌, ap, ◌≡◌, refl, sym, ℕ, subst, ◌<◌, false, cond, arith, List, true, Bool, not, [], ◌∷◌, ◌++◌, filter, both_ways}
use Rattle.rk_keys.proofs.Words.{eq-eqb, eqb-true, false_from_ne_true, and_parts, and_from, bytes_eq-Decides, option_or, nat_cmp, Some, None, Option}
use Rattle.rk_keys.proofs.Words.{nat_eq, unwrap_or, option_map, list_find, nat_le, bytes_eq, of_choice, shadow, get_changed_at, get_inserted}
use Rattle.rk_keys.proofs.Words.{get_removed, changed_at, names_at, first_changed, one_more, one_fewer, with_one_fewer, number_in, none-some, min, ◌+◌, is_of, kept_of, counted_in, name_hash, is_same, count_of, counted_out, Named}
use Rattle.std.specs.FinMap as map
use Rattle.std.specs.Option.{option_flatten}
use Rattle.std.proofs.lemmas.List.Folds.{find-append}
use Rattle.rk_keys.proofs.Firsts.{find_changed, find_others, not_changed}

abbrev Buckets : Type 0
Buckets = map.FinMap nat_cmp (List Named)

-- ---- what is found in a list

module _ {X : Type 0} (p : X → Bool) where
  -- where all that pass are kept, or none
  find_filtered : (q : X → Bool) (b : Bool) → ((x : X) → p x ≡ true → q x ≡ b) → (xs : List X) → list_find p (filter q xs) ≡ cond b (list_find p xs) None
  find_filtered q b is [] = elim b as (λ b. list_find p [] ≡ cond b (list_find p []) None) [ true ↦ refl | false ↦ refl ]
  find_filtered q b is (x ∷ xs) = elim (p x) as (λ t. p x ≡ t →
      list_find p (cond (q x) (x ∷ filter q xs) (filter q xs)) ≡ cond b (cond t (Some x) (list_find p xs)) None) [
        | true ↦ λ t.
            ap (λ c. list_find p (cond c (x ∷ filter q xs) (filter q xs))) (is x t)
            ∙ elim b as (λ b. list_find p (filter q xs) ≡ cond b (list_find p xs) None →
            list_find p (cond b (x ∷ filter q xs) (filter q xs)) ≡ cond b (Some x) None) [
              | true ↦ λ _. ap (λ c. cond c (Some x) (list_find p (filter q xs))) t
              | false ↦ λ e. e
            ] (find_filtered q b is xs)
        | false ↦ λ t.
            elim (q x) as (λ c. list_find p (cond c (x ∷ filter q xs) (filter q xs)) ≡ list_find p (filter q xs)) [
              | true ↦ ap (λ c. cond c (Some x) (list_find p (filter q xs))) t
              | false ↦ refl
            ] ∙ find_filtered q b is xs
      ] refl

-- ---- the names under a hash

pub names_put : (m : Buckets) (k : ℕ) (b : List Named) (h : ℕ) → names_at (map.insert (map.remove m k) k b) h ≡ cond (nat_eq k h) b (names_at m h)
names_put m k b h =
    ap (λ o. unwrap_or o []) (get_inserted (map.remove m k) k b h ∙ ap (cond (nat_eq k h) (Some b)) (get_removed m k h))
    ∙ ap (λ o. unwrap_or o []) (shadow (nat_eq k h) (Some b) None (map.get m h)) ∙ of_choice (λ o. unwrap_or o []) (nat_eq k h) (Some b) (map.get m h)

-- a bucket is put back as it was
pub names_back : (m : Buckets) (k : ℕ) (b : List Named) → b ≡ names_at m k → (h : ℕ) → names_at (map.insert (map.remove m k) k b) h ≡ names_at m h
names_back m k b is h =
    names_put m k b h
    ∙ elim (nat_eq k h) as (λ t. nat_eq k h ≡ t → cond t b (names_at m h) ≡ names_at m h) [
      | true ↦ λ same. is ∙ ap (names_at m) (eqb-true k h same)
      | false ↦ λ _. refl
    ] refl

-- and with one name more
pub names_pushed : (m : Buckets) (k : ℕ) (n : Named) (b new : List Named) → b ≡ names_at m k → new ≡ b ++ n ∷ [] → (h : ℕ)
    → names_at (map.insert (map.remove m k) k new) h ≡ cond (nat_eq k h) (names_at m h ++ n ∷ []) (names_at m h)
names_pushed m k n b new is pushed h =
    names_put m k new h
    ∙ elim (nat_eq k h) as (λ t. nat_eq k h ≡ t → cond t new (names_at m h) ≡ cond t (names_at m h ++ n ∷ []) (names_at m h)) [
      | true ↦ λ same. pushed ∙ ap (λ ns. ns ++ n ∷ []) (is ∙ ap (names_at m) (eqb-true k h same))
      | false ↦ λ _. refl
    ] refl

changed : (f : List Named → List Named) → f [] ≡ [] → (o : Option (List Named)) → unwrap_or (option_map f o) [] ≡ f (unwrap_or o [])
changed f none None = sym none
changed f none (Some b) = refl

-- a bucket is changed in its place
pub names_changed : (m : Buckets) (k : ℕ) (f : List Named → List Named) → f [] ≡ [] → (h : ℕ) →
    names_at (changed_at k f m) h ≡ cond (nat_eq k h) (f (names_at m h)) (names_at m h)
names_changed m k f none h =
    ap (λ o. unwrap_or o []) (get_changed_at k f m h)
    ∙ elim (nat_eq k h) as (λ t. unwrap_or (cond t (option_map f (map.get m h)) (map.get m h)) [] ≡ cond t (f (names_at m h)) (names_at m h)) [
      | true ↦ changed f none (map.get m h)
      | false ↦ refl
    ]

-- an empty bucket may be taken out
pub names_gone : (m : Buckets) (k : ℕ) → names_at m k ≡ [] → (h : ℕ) → names_at (map.remove m k) h ≡ names_at m h
names_gone m k empty h =
    ap (λ o. unwrap_or o []) (get_removed m k h)
    ∙ elim (nat_eq k h) as (λ t. nat_eq k h ≡ t → unwrap_or (cond t None (map.get m h)) [] ≡ names_at m h) [
      | true ↦ λ same. sym empty ∙ ap (names_at m) (eqb-true k h same)
      | false ↦ λ _. refl
    ] refl

-- what the bucket under a hash tells of a name, is told of the names under it
told_under : {A : Type 0} (f : List Named → Option A) → f [] ≡ None → (o : Option (List Named)) → option_flatten (option_map f o) ≡ f (unwrap_or o [])
told_under f none None = sym none
told_under f none (Some b) = refl

-- ---- one name and another

-- names that pass the test have equal types and descriptions
pub same_names : (typ description t d : List ℕ) → is_same typ description t d ≡ true → (typ ≡ t) × (description ≡ d)
same_names typ description t d is =
    let both = and_parts (bytes_eq typ t) (bytes_eq description d) is in ((bytes_eq-Decides typ t).0 both.0, (bytes_eq-Decides description d).0 both.1)

pub same_itself : (typ description : List ℕ) → is_same typ description typ description ≡ true
same_itself typ description = and_from _ _ ((bytes_eq-Decides typ typ).1 refl) ((bytes_eq-Decides description description).1 refl)

-- what is of one name is of no other
of_another : (typ description t d : List ℕ) (n : Named) → is_same typ description t d ≡ false → is_of t d n ≡ true → is_of typ description n ≡ false
of_another typ description t d n other is = false_from_ne_true _ (λ both.
    let a = same_names n.typ n.description typ description both in
    let b = same_names n.typ n.description t d is in
    both_ways _ other (and_from _ _ ((bytes_eq-Decides typ t).1 (sym a.0 ∙ b.0)) ((bytes_eq-Decides description d).1 (sym a.1 ∙ b.1))))

-- ---- one name changed

module _ (seed : ℕ) (old new : Buckets) (typ description : List ℕ) (f : List Named → List Named) (w : Option Named → Option Named)
    (is : (h : ℕ) → names_at new h ≡ cond (nat_eq (name_hash seed typ description) h) (f (names_at old h)) (names_at old h))
    (here : list_find (is_of typ description) (f (names_at old (name_hash seed typ description))) ≡ w (kept_of seed old typ description))
    (others : (t d : List ℕ) → is_same typ description t d ≡ false → (ns : List Named) → list_find (is_of t d) (f ns) ≡ list_find (is_of t d) ns) where
  kept_itself : kept_of seed new typ description ≡ w (kept_of seed old typ description)
  kept_itself =
      let h : ℕ = name_hash seed typ description in
      ap (list_find (is_of typ description)) (is h ∙ ap (λ b. cond b (f (names_at old h)) (names_at old h)) (eq-eqb h h refl)) ∙ here

  pub kept_edited : (t d : List ℕ) → kept_of seed new t d ≡ cond (is_same typ description t d) (w (kept_of seed old t d)) (kept_of seed old t d)
  kept_edited t d = elim (is_same typ description t d) as (λ b. is_same typ description t d ≡ b →
      kept_of seed new t d ≡ cond b (w (kept_of seed old t d)) (kept_of seed old t d)) [
        | true ↦ λ same.
            let e = same_names typ description t d same in
            subst (λ x. kept_of seed new x d ≡ w (kept_of seed old x d)) e.0
            (subst (λ x. kept_of seed new typ x ≡ w (kept_of seed old typ x)) e.1 kept_itself)
        | false ↦ λ other.
            let h : ℕ = name_hash seed t d in
            ap (list_find (is_of t d)) (is h)
            ∙ elim (nat_eq (name_hash seed typ description) h) as (λ b. list_find (is_of t d) (cond b (f (names_at old h)) (names_at old h)) ≡
            list_find (is_of t d) (names_at old h)) [
              | true ↦ others t d other (names_at old h)
              | false ↦ refl
            ]
      ] refl

module _ (seed : ℕ) (old new : Buckets) (typ description : List ℕ) where
  -- a name is put in that was not there
  pub kept_pushed : (serial : ℕ) → kept_of seed old typ description ≡ None
      → ((h : ℕ) → names_at new h ≡ cond (nat_eq (name_hash seed typ description) h) (names_at old h ++ counted_in typ description serial None ∷ [])
      (names_at old h))
      → (t d : List ℕ) → kept_of seed new t d ≡
      cond (is_same typ description t d) (Some (counted_in typ description serial (kept_of seed old t d))) (kept_of seed old t d)
  kept_pushed serial none is =
      let n : Named = counted_in typ description serial None in
      let ns : List Named = names_at old (name_hash seed typ description) in
      kept_edited seed old new typ description (λ ns. ns ++ n ∷ []) (λ o. Some (counted_in typ description serial o)) is
      (find-append (is_of typ description) ns (n ∷ [])
      ∙ ap (λ o. option_or o (list_find (is_of typ description) (n ∷ []))) none
      ∙ ap (λ b. cond b (Some n) None) (same_itself typ description)
      ∙ ap (λ o. Some (counted_in typ description serial o)) (sym none))
      (λ t d other ns.
      find-append (is_of t d) ns (n ∷ [])
      ∙ ap (λ b. option_or (list_find (is_of t d) ns) (cond b (Some n) None)) other
      ∙ elim (list_find (is_of t d) ns) as (λ o. option_or o None ≡ o) [ None ↦ refl | Some m ↦ refl ])

  not_of : (t d : List ℕ) (n : Named) → is_same typ description t d ≡ false → is_of typ description n ≡ true → is_of t d n ≡ false
  not_of t d n other of = false_from_ne_true _ (λ is. both_ways _ (of_another typ description t d n other is) of)

  -- what is kept of a name is changed, but for the name
  pub kept_counted : (f : Named → Named) (w : Option Named → Option Named) → ((t d : List ℕ) (n : Named) → is_of t d (f n) ≡ is_of t d n)
      → option_map f (kept_of seed old typ description) ≡ w (kept_of seed old typ description)
      → ((h : ℕ) → names_at new h ≡ cond (nat_eq (name_hash seed typ description) h) (first_changed (is_of typ description) f (names_at old h))
      (names_at old h))
      → (t d : List ℕ) → kept_of seed new t d ≡ cond (is_same typ description t d) (w (kept_of seed old t d)) (kept_of seed old t d)
  kept_counted f w keeps becomes is =
      kept_edited seed old new typ description (first_changed (is_of typ description) f) w is
      (find_changed (is_of typ description) f (keeps typ description) (names_at old (name_hash seed typ description)) ∙ becomes)
      (λ t d other ns.
      find_others (is_of typ description) (is_of t d) f (λ n of. let no = not_of t d n other of in (no, keeps t d n ∙ no)) ns)

  -- a key of the name is counted, under its hash
  pub names_counted : (k : ℕ) (t d : List ℕ) → k ≡ name_hash seed typ description → t ≡ typ → d ≡ description
      → new ≡ changed_at k (first_changed (is_of t d) one_more) old → (h : ℕ)
      → names_at new h ≡ cond (nat_eq (name_hash seed typ description) h) (first_changed (is_of typ description) one_more (names_at old h)) (names_at old h)
  names_counted k t d hash its_type its_description is h =
      ap (λ m. names_at m h) is ∙ names_changed old k (first_changed (is_of t d) one_more) refl h
      ∙ (λ i. cond (nat_eq (hash i) h) (first_changed (is_of (its_type i) (its_description i)) one_more (names_at old h)) (names_at old h))

  -- and its number told
  pub number_told : (k : ℕ) (t d : List ℕ) → k ≡ name_hash seed typ description → t ≡ typ → d ≡ description → (o : Option ℕ)
      → o ≡ option_flatten (option_map (λ b. number_in (list_find (is_of t d) b)) (map.get old k)) → number_in (kept_of seed old typ description) ≡ o
  number_told k t d hash its_type its_description o is =
      sym (is ∙ told_under (λ b. number_in (list_find (is_of t d) b)) refl (map.get old k)
      ∙ (λ i. number_in (list_find (is_of (its_type i) (its_description i)) (names_at old (hash i)))))

  -- a name that has a number is counted in its place
  pub as_counted_in : (serial number : ℕ) (o : Option Named) → number_in o ≡ Some number → count_of o < 4294967295
      → option_map one_more o ≡ Some (counted_in typ description serial o)
  as_counted_in serial number None is few = absurd (none-some number is)
  as_counted_in serial number (Some n) is few = ap (λ k. Some (record n { keys = k })) (room n.keys few) where
    room : (k : ℕ) → k < 4294967295 → min (k + 1) 4294967295 ≡ k + 1
    room k few = grind (arith, few)

  no_number : (o : Option Named) → number_in o ≡ None → o ≡ None
  no_number None is = refl
  no_number (Some n) is = absurd (none-some n.number (sym is))

  -- counting a key of a name that has no number changes nothing
  pub as_it_was : (f : Named → Named) → number_in (kept_of seed old typ description) ≡ None
      → ((h : ℕ) → names_at new h ≡ cond (nat_eq (name_hash seed typ description) h) (first_changed (is_of typ description) f (names_at old h))
      (names_at old h))
      → (kept_of seed old typ description ≡ None) × ((h : ℕ) → names_at new h ≡ names_at old h)
  as_it_was f none is = (nothing, λ h. is h ∙ by_hash h (nat_eq (name_hash seed typ description) h) refl) where
    nothing : kept_of seed old typ description ≡ None
    nothing = no_number (kept_of seed old typ description) none

    by_hash : (h : ℕ) (b : Bool) → nat_eq (name_hash seed typ description) h ≡ b
        → cond b (first_changed (is_of typ description) f (names_at old h)) (names_at old h) ≡ names_at old h
    by_hash h true same =
        not_changed (is_of typ description) f (names_at old h)
        (ap (λ k. list_find (is_of typ description) (names_at old k)) (sym (eqb-true _ h same)) ∙ nothing)
    by_hash h false other = refl

  as_counted_out : (o : Option Named) → cond (nat_le (count_of o) 1) None (option_map one_fewer o) ≡ counted_out o
  as_counted_out None = refl
  as_counted_out (Some n) = refl

  -- a name has one key fewer, or is taken out
  pub kept_out : ((h : ℕ) → names_at new h ≡ cond (nat_eq (name_hash seed typ description) h) (with_one_fewer typ description (names_at old h)) (names_at old h))
      → (t d : List ℕ) → kept_of seed new t d ≡ cond (is_same typ description t d) (counted_out (kept_of seed old t d)) (kept_of seed old t d)
  kept_out is =
      let q : Named → Bool = λ n. not (is_of typ description n) in
      let here : List Named = names_at old (name_hash seed typ description) in
      kept_edited seed old new typ description (with_one_fewer typ description) counted_out is
      (elim (nat_le (count_of (list_find (is_of typ description) here)) 1)
      as (λ b. list_find (is_of typ description) (cond b (filter q here) (first_changed (is_of typ description) one_fewer here))
      ≡ cond b None (option_map one_fewer (list_find (is_of typ description) here))) [
        | true ↦ find_filtered (is_of typ description) q false (λ n of. ap not of) here
        | false ↦ find_changed (is_of typ description) one_fewer (λ n. refl) here
      ] ∙ as_counted_out (list_find (is_of typ description) here))
      (λ t d other ns. elim (nat_le (count_of (list_find (is_of typ description) ns)) 1)
      as (λ b. list_find (is_of t d) (cond b (filter q ns) (first_changed (is_of typ description) one_fewer ns)) ≡ list_find (is_of t d) ns) [
        | true ↦ find_filtered (is_of t d) q true (λ n of. ap not (of_another typ description t d n other of)) ns
        | false ↦ find_others (is_of typ description) (is_of t d) one_fewer (λ n of. let no = not_of t d n other of in (no, no)) ns
      ])

  -- nothing is changed
  pub kept_same : ((h : ℕ) → names_at new h ≡ names_at old h) → (t d : List ℕ) → kept_of seed new t d ≡ kept_of seed old t d
  kept_same is t d = ap (list_find (is_of t d)) (is (name_hash seed t d))
