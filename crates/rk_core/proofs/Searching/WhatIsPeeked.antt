-- What a key's handler may see of another key.
use Rattle.rk_core.proofs.Words.{◌≡◌, ◌⊎◌, ℕ, true, false, List, inl, inr, refl, sym, subst, Option, Some, None, option_map, option_and_then, unwrap_or}
use Rattle.rk_core.proofs.Words.{MatchOption, both_ways, Authority, unspent, Condition, Key, key_passes, is_building, builds, rings_of, World, Hits, positive}
use Rattle.rk_core.proofs.Words.{Peeks, IsSought, Missed, Sought}
use Rattle.std.specs.FinMap as map
use Rattle.rk_keys.specs.declared.key.Condition.TheVariants as condition
use Rattle.rk_core.specs.declared.search.Sought.TheVariants as sought

-- the payload of the key of a search's hit
abbrev pub seen_of : World → Option ℕ → Option (List ℕ)
seen_of w hit = option_and_then (λ j. option_and_then (λ (key : Key). positive key.condition) (map.get w.keys j)) hit

-- the payload of the Positive key that a search in the authority's context hits is what its handler may see
pub peeks : (w : World) (k : ℕ) (typ description : List ℕ) (now : ℕ) (a : Authority) (hit : Option ℕ) (seen : Option (List ℕ))
    → unspent w.sessions k ≡ Some a
    → Hits w (record { context = a.context; typ = typ; description = description; now = now }) (rings_of a.context) hit
    → seen ≡ seen_of w hit → Peeks w k typ description now seen
peeks w k typ description now a hit seen is hits e =
    subst (λ (o : Option Authority). MatchOption o (seen ≡ None)
    (λ a. (hit : Option ℕ) × Hits w (record { context = a.context; typ = typ; description = description; now = now }) (rings_of a.context) hit
    × (seen ≡ seen_of w hit)))
    (sym is) (hit, hits, e)

-- of a key under construction nothing is seen
unseen : (w : World) (k : ℕ) → key_passes w.keys k is_building ≡ true → None ≡ seen_of w (Some k)
unseen w k h = by_key (map.get w.keys k) h
  where
    by_condition : (c : Condition) → builds c ≡ true → None ≡ positive c
    by_condition condition.Building h = refl
    by_condition (condition.Positive payload) h = absurd (both_ways false refl h)
    by_condition (condition.Negative e) h = absurd (both_ways false refl h)

    by_key : (o : Option Key) → unwrap_or (option_map is_building o) false ≡ true → None ≡ option_and_then (λ (key : Key). positive key.condition) o
    by_key None h = refl
    by_key (Some key) h = by_condition key.condition h

-- nor without a hit
pub no_more_seen : (w : World) (k : ℕ) (typ description : List ℕ) (now : ℕ) (a : Authority) (s : Sought) → unspent w.sessions k ≡ Some a
    → IsSought w (record { context = a.context; typ = typ; description = description; now = now }) (rings_of a.context) s
    → (((j : ℕ) × (s ≡ sought.Building j)) ⊎ ((missed : Missed) × (s ≡ sought.Missed missed))) → Peeks w k typ description now None
no_more_seen w k typ description now a s is found (inl (j, e)) =
    let building = subst (IsSought w (record { context = a.context; typ = typ; description = description; now = now }) (rings_of a.context)) e found in
    peeks w k typ description now a (Some j) None is building.0 (unseen w j building.1)
no_more_seen w k typ description now a s is found (inr (missed, e)) =
    let none = subst (IsSought w (record { context = a.context; typ = typ; description = description; now = now }) (rings_of a.context)) e found in
    peeks w k typ description now a None None is none.0 refl
