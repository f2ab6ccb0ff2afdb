-- Search: the keys of a name in the rings of a context. request_key(2); request-key.rst, "The search algorithm".
use Rattle.std.specs.Prelude.{◌≡◌, ◌⊎◌, ℕ, Bool, true, false, ◌&&◌, List, [], ◌∷◌, find, Option, Some, None, unwrap_or}
use Rattle.std.specs.Option.{option_map_or}
use Rattle.std.specs.List.{list_any}
use Rattle.std.specs.FinMap as map
use Rattle.std.specs.FinSet as set
use Rattle.rk_names.specs.declared.context.Context.{Context}
use Rattle.rk_names.specs.declared.errors.KeyError.{KeyError}
use Rattle.rk_names.specs.declared.errors.KeyError.TheVariants as error
use Rattle.rk_keys.specs.declared.key.Key.{Key}
use Rattle.rk_keys.specs.declared.key.Standing.{Standing}
use Rattle.rk_keys.specs.declared.key.Standing.TheVariants as standing
use Rattle.rk_keys.specs.Key.{standing_of, key_passes, is_named}
use Rattle.rk_rings.specs.Ring.{is_linked}
use Rattle.rk_rings.specs.Places.{rings_of}
use Rattle.rk_machine.specs.World.{World}

-- what is searched for: in whose rings, which name, and when
pub record Query : Type 0 where
  -- in whose rings
  pub context : Context
  -- the type of the key
  pub typ : List ℕ
  -- its description
  pub description : List ℕ
  -- the moment at which it stands
  pub now : ℕ

-- the key has the name, and its standing passes the test
abbrev pub answers : Query → (Standing → Bool) → Key → Bool
answers q p key = is_named q.typ q.description key && p (standing_of key q.now)

-- ---- the hit

-- a hit stands Positive or Building
abbrev pub is_live : Standing → Bool
is_live standing.Revoked = false
is_live standing.Expired = false
is_live standing.Building = true
is_live standing.Positive = true
is_live (standing.Negative e) = false

-- k is linked in this ring, has the name, and stands Positive or Building
abbrev pub is_hit : World → Query → ℕ → ℕ → Bool
is_hit w q ring k = is_linked w.rings ring k && key_passes w.keys k (answers q is_live)

-- the search of these rings hits: a key of the first ring that has one
abbrev pub Hits : World → Query → List ℕ → Option ℕ → Type 0
Hits w q [] found = found ≡ None
Hits w q (ring ∷ rings) None = ((k : ℕ) → is_hit w q ring k ≡ false) × Hits w q rings None
Hits w q (ring ∷ rings) (Some found) =
    (is_hit w q ring found ≡ true) ⊎ (((k : ℕ) → is_hit w q ring k ≡ false) × Hits w q rings (Some found))

-- ---- the errors if there is no hit

-- some key in this ring has the name, and its standing passes the test
abbrev pub has_match : World → Query → (Standing → Bool) → ℕ → Bool
has_match w q p ring = option_map_or (λ r. list_any (λ k. key_passes w.keys k (answers q p)) (set.items r.keys)) (map.get w.rings ring) false

-- some key of the name in the rings of the context stands so
abbrev pub some_match : World → Query → (Standing → Bool) → Bool
some_match w q p = list_any (has_match w q p) (rings_of q.context)

-- both are the same error
abbrev pub same_error : KeyError → KeyError → Bool
same_error error.Revoked error.Revoked = true
same_error error.Expired error.Expired = true
same_error error.Rejected error.Rejected = true
same_error error.NoKey error.NoKey = true
same_error _ _ = false

-- it stands Negative, with this error
abbrev pub blocks : KeyError → Standing → Bool
blocks e (standing.Negative f) = same_error e f
blocks e _ = false

-- it is revoked or expired, which is this error
abbrev pub is_stale : KeyError → Standing → Bool
is_stale error.Revoked standing.Revoked = true
is_stale error.Expired standing.Expired = true
is_stale _ _ = false

-- the order of errors: request-key.rst, "EKEYREVOKED > EKEYEXPIRED > EKEYREJECTED > ENOKEY"
abbrev pub errors : List KeyError
errors = error.Revoked ∷ error.Expired ∷ error.Rejected ∷ error.NoKey ∷ []

-- the block: the first error of the live negative keys
abbrev pub block_of : World → Query → Option KeyError
block_of w q = find (λ e. some_match w q (blocks e)) errors

-- the stale error: the first error of the expired and revoked keys, ENOKEY if there are none
abbrev pub stale_of : World → Query → KeyError
stale_of w q = unwrap_or (find (λ e. some_match w q (is_stale e)) errors) error.NoKey
