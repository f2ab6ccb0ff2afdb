-- What is found in each ring tells what the search hits, and which errors there are.
use Rattle.rk_core.proofs.Words.{◌≡◌, ◌⊎◌, ℕ, Bool, true, false, cond, not, ◌&&◌, ◌||◌, List, [], ◌∷◌, ◌++◌, refl, sym, ap, ◌∙◌, inl, inr, subst, Option, Some}
use Rattle.rk_core.proofs.Words.{None, nat_eq, option_map, option_to_list, unwrap_or, is_some, find, option_map_or, list_any, nat_cmp, and_parts, both_ways}
use Rattle.rk_core.proofs.Words.{append-nil, list_any-append, KeyError, Context, Condition, Key, Standing, key_passes, is_named, is_building, builds, is_past}
use Rattle.rk_core.proofs.Words.{standing_of, stands_by, Ring, is_linked, rings_of, World, Query, Hits, answers, is_live, is_hit, has_match, same_error, blocks}
use Rattle.rk_core.proofs.Words.{is_stale, errors, IsSole, IsSought, error_in, Match, Missed, Sought}
use Rattle.std.specs.FinMap as map
use Rattle.std.specs.FinSet as set
use Rattle.rk_names.specs.declared.errors.KeyError.TheVariants as error
use Rattle.rk_keys.specs.declared.key.Condition.TheVariants as condition
use Rattle.rk_keys.specs.declared.key.Standing.TheVariants as standing
use Rattle.rk_core.specs.declared.search.Sought.TheVariants as sought
use Rattle.rk_core.proofs.LinksAndNames.LinksByNumber.{item_passes, passing_item, last_false}
use Rattle.rk_core.proofs.LinksAndNames.LinksAfter.{same_answer, tied_itself, has_key}

or_false : (b : Bool) → (b || false) ≡ b
or_false true = refl
or_false false = refl

-- ---- the first error of two

-- a test of the four errors
errors_at : Bool → Bool → Bool → Bool → KeyError → Bool
errors_at a b c d error.Revoked = a
errors_at a b c d error.Expired = b
errors_at a b c d error.Rejected = c
errors_at a b c d error.NoKey = d

more : (a b c d : Bool) (f : KeyError) → find (λ e. errors_at a b c d e || same_error e f) errors
    ≡ find (λ e. option_map_or (same_error e) (find (errors_at a b c d) errors) false || same_error e f) errors
unfolding errors_at
more true b c d f = refl
more false true c d error.Revoked = refl
more false true c d error.Expired = refl
more false true c d error.Rejected = refl
more false true c d error.NoKey = refl
more false false true d error.Revoked = refl
more false false true d error.Expired = refl
more false false true d error.Rejected = refl
more false false true d error.NoKey = refl
more false false false true error.Revoked = refl
more false false false true error.Expired = refl
more false false false true error.Rejected = refl
more false false false true error.NoKey = refl
more false false false false error.Revoked = refl
more false false false false error.Expired = refl
more false false false false error.Rejected = refl
more false false false false error.NoKey = refl

-- the first of some errors and one more
one_more : (some one : KeyError → Bool) (f : KeyError) → ((e : KeyError) → one e ≡ same_error e f) → find (λ e. some e || one e) errors
    ≡ find (λ e. option_map_or (same_error e) (find some errors) false || same_error e f) errors
unfolding errors_at
one_more some one f is =
    (λ i. find (λ e. some e || is e i) errors)
    ∙ more (some error.Revoked) (some error.Expired) (some error.Rejected) (some error.NoKey) f

no_more : (some one : KeyError → Bool) → ((e : KeyError) → one e ≡ false) → find (λ e. some e || one e) errors ≡ find some errors
no_more some one none = λ i. find (λ e. (ap (λ b. some e || b) (none e) ∙ or_false (some e)) i) errors

-- ---- what stands Positive or Building

is_positive : Standing → Bool
is_positive standing.Positive = true
is_positive _ = false

stands_building : Standing → Bool
stands_building standing.Building = true
stands_building _ = false

positive_not_building : (now : ℕ) (key : Key) → is_positive (standing_of key now) ≡ true → not (is_building key) ≡ true
unfolding is_positive
positive_not_building now key h = by_parts key.revoked (is_past key.expiry now) key.condition h
  where
    by_parts : (r p : Bool) (c : Condition) → is_positive (cond r standing.Revoked (cond p standing.Expired (stands_by c))) ≡ true → not (builds c) ≡ true
    by_parts true p c h = absurd (both_ways false refl h)
    by_parts false true c h = absurd (both_ways false refl h)
    by_parts false false condition.Building h = absurd (both_ways false refl h)
    by_parts false false (condition.Positive payload) h = refl
    by_parts false false (condition.Negative e) h = absurd (both_ways false refl h)

building_builds : (now : ℕ) (key : Key) → stands_building (standing_of key now) ≡ true → is_building key ≡ true
unfolding stands_building
building_builds now key h = by_parts key.revoked (is_past key.expiry now) key.condition h
  where
    by_parts : (r p : Bool) (c : Condition) → stands_building (cond r standing.Revoked (cond p standing.Expired (stands_by c))) ≡ true → builds c ≡ true
    by_parts true p c h = absurd (both_ways false refl h)
    by_parts false true c h = absurd (both_ways false refl h)
    by_parts false false condition.Building h = refl
    by_parts false false (condition.Positive payload) h = absurd (both_ways false refl h)
    by_parts false false (condition.Negative e) h = absurd (both_ways false refl h)

-- a key that passes some test is there
pub passes_known : (keys : map.FinMap nat_cmp Key) (p : Key → Bool) (k : ℕ) → key_passes keys k p ≡ true → map.contains_key keys k ≡ true
passes_known keys p k h = there (map.get keys k) h
  where
    there : (o : Option Key) → unwrap_or (option_map p o) false ≡ true → is_some o ≡ true
    there None h = h
    there (Some key) h = refl

module _ (w : World) (q : Query) where
  -- ---- one more ring

  none_further : (rings : List ℕ) (ring : ℕ) → Hits w q rings None → ((k : ℕ) → is_hit w q ring k ≡ false) → Hits w q (rings ++ (ring ∷ [])) None
  none_further [] ring h none = (none, refl)
  none_further (r ∷ rings) ring h none = (h.0, none_further rings ring h.1 none)

  hit_further : (rings : List ℕ) (ring k : ℕ) → Hits w q rings None → is_hit w q ring k ≡ true → Hits w q (rings ++ (ring ∷ [])) (Some k)
  hit_further [] ring k h hit = inl hit
  hit_further (r ∷ rings) ring k h hit = inr (h.0, hit_further rings ring k h.1 hit)

  -- a hit stays one, whatever rings follow
  hit_stays : (rings more : List ℕ) (k : ℕ) → Hits w q rings (Some k) → Hits w q (rings ++ more) (Some k)
  hit_stays [] more k h = absurd (let no : Some k ≡ None = h in cc)
  hit_stays (r ∷ rings) more k (inl hit) = inl hit
  hit_stays (r ∷ rings) more k (inr h) = inr (h.0, hit_stays rings more k h.1)

  sole_passes : (ring : ℕ) (one : Match) (p : Standing → Bool) → IsSole w q (Some ring) (Some one) → p one.standing ≡ true
      → (is_linked w.rings ring one.key && key_passes w.keys one.key (answers q p)) ≡ true
  sole_passes ring one p sole t = sole p one.key ∙ (λ i. tied_itself one.key i && t i)

  hits_one : (rings : List ℕ) (ring : Option ℕ) (one : Match) → Hits w q rings None → IsSole w q ring (Some one) → is_live one.standing ≡ true
      → Hits w q (rings ++ option_to_list ring) (Some one.key)
  hits_one rings None one h sole t = absurd (let no : Some one ≡ None = sole in cc)
  hits_one rings (Some ring) one h sole t = hit_further rings ring one.key h (sole_passes ring one is_live sole t)

  -- what a standing tells of the key
  told_by : (p : Standing → Bool) (about : Key → Bool) → ((key : Key) → p (standing_of key q.now) ≡ true → about key ≡ true) → (ring : Option ℕ) (one : Match)
      → IsSole w q ring (Some one) → p one.standing ≡ true
      → key_passes w.keys one.key about ≡ true
  told_by p about tells None one sole t = absurd (let no : Some one ≡ None = sole in cc)
  told_by p about tells (Some ring) one sole t =
      by_key (map.get w.keys one.key) (and_parts (is_linked w.rings ring one.key) (key_passes w.keys one.key (answers q p)) (sole_passes ring one p sole t)).1
    where
      by_key : (o : Option Key) → unwrap_or (option_map (answers q p) o) false ≡ true → unwrap_or (option_map about o) false ≡ true
      by_key None h = h
      by_key (Some key) h = tells key (and_parts (is_named q.typ q.description key) (p (standing_of key q.now)) h).1

  -- ---- the errors

  abbrev stands : (Standing → Bool) → Option Match → Bool
  stands p m = option_map_or (λ (one : Match). p one.standing) m false

  matches_as : (p : Standing → Bool) (ring : ℕ) (m : Option Match) → IsSole w q (Some ring) m → has_match w q p ring ≡ stands p m
  matches_as p ring m sole = same_answer (has_match w q p ring) (stands p m) (forward (map.get w.rings ring) refl) (backward m sole)
    where
      stands_so : (k : ℕ) (m : Option Match) → option_map_or (λ (one : Match). nat_eq k one.key && p one.standing) m false ≡ true → stands p m ≡ true
      stands_so k None h = h
      stands_so k (Some one) h = (and_parts (nat_eq k one.key) (p one.standing) h).1

      forward : (o : Option Ring) → map.get w.rings ring ≡ o
          → option_map_or (λ (r : Ring). list_any (λ k. key_passes w.keys k (answers q p)) (set.items r.keys)) o false ≡ true → stands p m ≡ true
      forward None is h = absurd (both_ways false refl h)
      forward (Some r) is h =
          let f = passing_item (λ k. key_passes w.keys k (answers q p)) r.keys h in
          stands_so f.0 m (sym (sole p f.0) ∙ (λ i. (ap (has_key f.0) is ∙ f.1) i && f.2 i))

      by_ring : (one : Match) → (is_linked w.rings ring one.key && key_passes w.keys one.key (answers q p)) ≡ true → (o : Option Ring)
          → map.get w.rings ring ≡ o
          → option_map_or (λ (r : Ring). list_any (λ k. key_passes w.keys k (answers q p)) (set.items r.keys)) o false ≡ true
      by_ring one h None is =
          absurd (both_ways false refl (sym (ap (has_key one.key) is)
          ∙ (and_parts (is_linked w.rings ring one.key) (key_passes w.keys one.key (answers q p)) h).0))
      by_ring one h (Some r) is =
          let both = and_parts (is_linked w.rings ring one.key) (key_passes w.keys one.key (answers q p)) h in
          item_passes (λ k. key_passes w.keys k (answers q p)) r.keys one.key (sym (ap (has_key one.key) is) ∙ both.0) both.1

      backward : (m : Option Match) → IsSole w q (Some ring) m → stands p m ≡ true → has_match w q p ring ≡ true
      backward None sole h = absurd (both_ways false refl h)
      backward (Some one) sole h = by_ring one (sole_passes ring one p sole h) (map.get w.rings ring) refl

  any_further : (p : Standing → Bool) (rings : List ℕ) (ring : ℕ) (m : Option Match) → IsSole w q (Some ring) m
      → list_any (has_match w q p) (rings ++ (ring ∷ [])) ≡ (list_any (has_match w q p) rings || stands p m)
  any_further p rings ring m sole =
      list_any-append (has_match w q p) rings (ring ∷ [])
      ∙ (λ i. list_any (has_match w q p) rings || (or_false (has_match w q p ring) ∙ matches_as p ring m sole) i)

  -- no key of the next ring adds an error
  error_stays : (test : KeyError → Standing → Bool) (rings : List ℕ) (ring : ℕ) (m : Option Match) → IsSole w q (Some ring) m
      → ((e : KeyError) → stands (test e) m ≡ false)
      → error_in w q (rings ++ (ring ∷ [])) test ≡ error_in w q rings test
  error_stays test rings ring m sole none =
      (λ i. find (λ e. any_further (test e) rings ring m sole i) errors)
      ∙ no_more (λ e. list_any (has_match w q (test e)) rings) (λ e. stands (test e) m) none

  -- the key of the next ring adds this error
  error_added : (test : KeyError → Standing → Bool) (rings : List ℕ) (ring : ℕ) (m : Option Match) (f : KeyError) (before : Option KeyError)
      → IsSole w q (Some ring) m → ((e : KeyError) → stands (test e) m ≡ same_error e f) → before ≡ error_in w q rings test
      → find (λ e. option_map_or (same_error e) before false || same_error e f) errors ≡ error_in w q (rings ++ (ring ∷ [])) test
  error_added test rings ring m f before sole one is =
      ap (λ (o : Option KeyError). find (λ e. option_map_or (same_error e) o false || same_error e f) errors) is
      ∙ sym ((λ i. find (λ e. any_further (test e) rings ring m sole i) errors)
      ∙ one_more (λ e. list_any (has_match w q (test e)) rings) (λ e. stands (test e) m) f one)

  -- ---- what the search comes to with one more ring

  -- in which nothing is found
  pub with_nothing : (rings : List ℕ) (ring : Option ℕ) (missed : Missed) → IsSought w q rings (sought.Missed missed) → IsSole w q ring None
      → IsSought w q (rings ++ option_to_list ring) (sought.Missed missed)
  with_nothing rings None missed h sole = subst (λ rs. IsSought w q rs (sought.Missed missed)) (sym (append-nil rings)) h
  with_nothing rings (Some ring) missed h sole = (
    none_further rings ring h.0 (λ k. sole is_live k),
    h.1 ∙ sym (error_stays blocks rings ring None sole (λ e. refl)),
    h.2 ∙ sym (error_stays is_stale rings ring None sole (λ e. refl)),
  )

  pub with_positive : (rings : List ℕ) (ring : Option ℕ) (one : Match) (missed : Missed) → IsSought w q rings (sought.Missed missed)
      → IsSole w q ring (Some one) → one.standing ≡ standing.Positive
      → IsSought w q (rings ++ option_to_list ring) (sought.Positive one.key)
  unfolding is_positive
  with_positive rings ring one missed h sole is =
      (hits_one rings ring one h.0 sole (ap is_live is), told_by is_positive (λ key. not (is_building key)) (positive_not_building q.now) ring one sole (ap is_positive is))

  pub with_building : (rings : List ℕ) (ring : Option ℕ) (one : Match) (missed : Missed) → IsSought w q rings (sought.Missed missed)
      → IsSole w q ring (Some one) → one.standing ≡ standing.Building
      → IsSought w q (rings ++ option_to_list ring) (sought.Building one.key)
  unfolding stands_building
  with_building rings ring one missed h sole is =
      (hits_one rings ring one h.0 sole (ap is_live is), told_by stands_building is_building (building_builds q.now) ring one sole (ap stands_building is))

  -- a key that is no hit
  not_live : (ring : ℕ) (one : Match) → IsSole w q (Some ring) (Some one) → is_live one.standing ≡ false → (k : ℕ) → is_hit w q ring k ≡ false
  not_live ring one sole t k = sole is_live k ∙ last_false (nat_eq k one.key) (is_live one.standing) t

  pub with_negative : (rings : List ℕ) (ring : Option ℕ) (one : Match) (missed : Missed) (f : KeyError) → IsSought w q rings (sought.Missed missed)
      → IsSole w q ring (Some one) → one.standing ≡ standing.Negative f
      → IsSought w q (rings ++ option_to_list ring) (sought.Missed (record {
        block = find (λ e. option_map_or (same_error e) missed.block false || same_error e f) errors;
        stale = missed.stale;
      }))
  with_negative rings None one missed f h sole is = absurd (let no : Some one ≡ None = sole in cc)
  with_negative rings (Some ring) one missed f h sole is = (
    none_further rings ring h.0 (not_live ring one sole (ap is_live is)),
    error_added blocks rings ring (Some one) f missed.block sole (λ e. ap (blocks e) is) h.1,
    h.2 ∙ sym (error_stays is_stale rings ring (Some one) sole (λ e. ap (is_stale e) is ∙ never e)),
  )
    where
      never : (e : KeyError) → is_stale e (standing.Negative f) ≡ false
      never error.Revoked = refl
      never error.Expired = refl
      never error.Rejected = refl
      never error.NoKey = refl

  with_stale : (rings : List ℕ) (ring : Option ℕ) (one : Match) (missed : Missed) (f : KeyError) (s : Standing) → IsSought w q rings (sought.Missed missed)
      → IsSole w q ring (Some one) → one.standing ≡ s → is_live s ≡ false → ((e : KeyError) → blocks e s ≡ false)
      → ((e : KeyError) → is_stale e s ≡ same_error e f)
      → IsSought w q (rings ++ option_to_list ring) (sought.Missed (record {
        block = missed.block;
        stale = find (λ e. option_map_or (same_error e) missed.stale false || same_error e f) errors;
      }))
  with_stale rings None one missed f s h sole is live none stale = absurd (let no : Some one ≡ None = sole in cc)
  with_stale rings (Some ring) one missed f s h sole is live none stale = (
    none_further rings ring h.0 (not_live ring one sole (ap is_live is ∙ live)),
    h.1 ∙ sym (error_stays blocks rings ring (Some one) sole (λ e. ap (blocks e) is ∙ none e)),
    error_added is_stale rings ring (Some one) f missed.stale sole (λ e. ap (is_stale e) is ∙ stale e) h.2,
  )

  pub with_revoked : (rings : List ℕ) (ring : Option ℕ) (one : Match) (missed : Missed) → IsSought w q rings (sought.Missed missed)
      → IsSole w q ring (Some one) → one.standing ≡ standing.Revoked
      → IsSought w q (rings ++ option_to_list ring) (sought.Missed (record {
        block = missed.block;
        stale = find (λ e. option_map_or (same_error e) missed.stale false || same_error e error.Revoked) errors;
      }))
  with_revoked rings ring one missed h sole is = with_stale rings ring one missed error.Revoked standing.Revoked h sole is refl (λ e. refl) same
    where
      same : (e : KeyError) → is_stale e standing.Revoked ≡ same_error e error.Revoked
      same error.Revoked = refl
      same error.Expired = refl
      same error.Rejected = refl
      same error.NoKey = refl

  pub with_expired : (rings : List ℕ) (ring : Option ℕ) (one : Match) (missed : Missed) → IsSought w q rings (sought.Missed missed)
      → IsSole w q ring (Some one) → one.standing ≡ standing.Expired
      → IsSought w q (rings ++ option_to_list ring) (sought.Missed (record {
        block = missed.block;
        stale = find (λ e. option_map_or (same_error e) missed.stale false || same_error e error.Expired) errors;
      }))
  with_expired rings ring one missed h sole is = with_stale rings ring one missed error.Expired standing.Expired h sole is refl (λ e. refl) same
    where
      same : (e : KeyError) → is_stale e standing.Expired ≡ same_error e error.Expired
      same error.Revoked = refl
      same error.Expired = refl
      same error.Rejected = refl
      same error.NoKey = refl

  -- after a hit
  pub stays_hit : (rings : List ℕ) (ring : Option ℕ) (s : Sought) → (((k : ℕ) × (s ≡ sought.Positive k)) ⊎ ((k : ℕ) × (s ≡ sought.Building k)))
      → IsSought w q rings s → IsSought w q (rings ++ option_to_list ring) s
  stays_hit rings ring s (inl is) h =
      let found = subst (IsSought w q rings) is.1 h in
      subst (IsSought w q (rings ++ option_to_list ring)) (sym is.1) (hit_stays rings (option_to_list ring) is.0 found.0, found.1)
  stays_hit rings ring s (inr is) h =
      let found = subst (IsSought w q rings) is.1 h in
      subst (IsSought w q (rings ++ option_to_list ring)) (sym is.1) (hit_stays rings (option_to_list ring) is.0 found.0, found.1)

-- the rings of a context, one after the other
pub one_by_one : (c : Context) → ((([] ++ option_to_list c.thread) ++ option_to_list c.process) ++ (c.session ∷ [])) ++ (c.user ∷ []) ≡ rings_of c
one_by_one c = by_places c.thread c.process
  where
    by_places : (thread process : Option ℕ) → ((([] ++ option_to_list thread) ++ option_to_list process) ++ (c.session ∷ [])) ++ (c.user ∷ [])
        ≡ option_to_list thread ++ (option_to_list process ++ (c.session ∷ c.user ∷ []))
    by_places None None = refl
    by_places None (Some process) = refl
    by_places (Some thread) None = refl
    by_places (Some thread) (Some process) = refl
