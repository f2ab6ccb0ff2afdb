-- A request, step by step.
use Rattle.rk_core.proofs.Words.{◌≡◌, ℕ, Bool, true, false, not, List, [], ◌∷◌, refl, sym, ap, ◌∙◌, subst, ℤ, Option, Some, None, option_map, unwrap_or}
use Rattle.rk_core.proofs.Words.{MatchOption, MatchBool, SessionId, Errno, key_errno, Says, Key, key_passes, is_building, HasSerials, rings_of, Answer, Refused}
use Rattle.rk_core.proofs.Words.{Missed, World, Asker, ring_for, ring_or_none_refusal, first_of, OrNoMemory, Query, Hits, block_of, IsSought, start_refusal}
use Rattle.rk_core.proofs.Words.{destination_of, Begins, Misses, MeetsBuilding, MeetsPositive, Meets, Requests, unless_none, unless_some}
use Rattle.std.specs.FinMap as map
use Rattle.rk_names.specs.declared.errors.KeyError.TheVariants as error
use Rattle.rk_core.specs.declared.search.Sought.TheVariants as sought

module _ (old : World) (s : SessionId) (asker : Asker) (q : Query) (ring : ℕ) (missed : Missed)
    (found : IsSought old q (rings_of q.context) (sought.Missed missed)) where
  abbrev refusal : Bool → Option Errno
  refusal left = first_of (option_map key_errno missed.block ∷ start_refusal old asker q ring left ∷ [])

  same_refusal : (left : Bool) → refusal left ≡ first_of (option_map key_errno (block_of old q) ∷ start_refusal old asker q ring left ∷ [])
  same_refusal left = ap (λ o. first_of (option_map key_errno o ∷ start_refusal old asker q ring left ∷ [])) found.1

  -- without a callout
  pub told_error : (callout : Option (List ℕ)) (told : Errno) → callout ≡ None
      → told ≡ key_errno (unwrap_or missed.block (unwrap_or missed.stale error.NoKey)) → Misses old s asker q callout ring (Refused told) old
  told_error callout told none is =
      subst (λ (o : Option (List ℕ)). Misses old s asker q o ring (Refused told) old) (sym none)
      (ap (λ (e : Errno). Refused e) (is ∙ (λ i. key_errno (unwrap_or (found.1 i) (unwrap_or (found.2 i) error.NoKey)))), refl)

  -- no construction may start
  pub start_refused : (callout : Option (List ℕ)) (info : List ℕ) (left : Bool) (error : Errno) → callout ≡ Some info → Says left (HasSerials old.serials 1)
      → refusal left ≡ Some error
      → Misses old s asker q callout ring (Refused error) old
  start_refused callout info left error some says is =
      subst (λ (o : Option (List ℕ)). Misses old s asker q o ring (Refused error) old) (sym some)
      (left, says, unless_some _ error old _ (sym (same_refusal left) ∙ is))

  -- one starts, or there is no memory
  pub start_allowed : (callout : Option (List ℕ)) (info : List ℕ) (left : Bool) (a : Answer) (new : World) → callout ≡ Some info
      → Says left (HasSerials old.serials 1) → refusal left ≡ None
      → OrNoMemory old a new (Begins old s q info asker.depth ring a new) → Misses old s asker q callout ring a new
  start_allowed callout info left a new some says none begun =
      subst (λ (o : Option (List ℕ)). Misses old s asker q o ring a new) (sym some)
      (left, says, unless_none _ old a new _ (sym (same_refusal left) ∙ none) begun)

-- ---- what the search found

-- a hit that stands Positive is answered
pub meets_positive : (old : World) (s : SessionId) (k : ℕ) (ring : Option ℕ) (a : Answer) (new : World)
    → key_passes old.keys k (λ key. not (is_building key)) ≡ true → MeetsPositive old k ring a new → Meets old s k ring a new
meets_positive old s k ring a new positive met =
    subst (λ b. MatchBool b (MeetsBuilding old s k ring a new) (MeetsPositive old k ring a new)) (sym (by_key (map.get old.keys k) positive)) met
  where
    by_test : (b : Bool) → not b ≡ true → b ≡ false
    by_test true h = sym h
    by_test false h = refl

    by_key : (o : Option Key) → unwrap_or (option_map (λ key. not (is_building key)) o) false ≡ true → unwrap_or (option_map is_building o) false ≡ false
    by_key None h = refl
    by_key (Some key) h = by_test (is_building key) h

-- one under construction is waited for
pub meets_building : (old : World) (s : SessionId) (k : ℕ) (ring : Option ℕ) (a : Answer) (new : World)
    → key_passes old.keys k is_building ≡ true → MeetsBuilding old s k ring a new → Meets old s k ring a new
meets_building old s k ring a new building met =
    subst (λ b. MatchBool b (MeetsBuilding old s k ring a new) (MeetsPositive old k ring a new)) (sym building) met

-- a request without a bad ring is answered as the machine answers it: by a key that it hits, or as a miss
pub requested : (old : World) (now : ℕ) (s : SessionId) (asker : Asker) (typ description : List ℕ) (callout : Option (List ℕ)) (r : ℤ) (a : Answer)
    (new : World) (found : Option ℕ)
    → ring_or_none_refusal old asker r ≡ None
    → Hits old (record { context = asker.context; typ = typ; description = description; now = now }) (rings_of asker.context) found
    → MatchOption found (Misses old s asker (record { context = asker.context; typ = typ; description = description; now = now }) callout
    (destination_of old asker r) a new) (λ k. Meets old s k (ring_for old asker r) a new)
    → Requests old now s asker typ description callout r a new
unfolding Requests
requested old now s asker typ description callout r a new found none hits rest =
    unless_none (ring_or_none_refusal old asker r) old a new _ none (found, hits, rest)
