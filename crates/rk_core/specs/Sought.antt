-- What a search tells of the rings of a context, in each of which at most one key has the name.
use Rattle.std.specs.Prelude.{◌≡◌, ℕ, Bool, true, false, not, ◌&&◌, ◌==◌, List, find, Option, Some, None, option_map, option_and_then}
use Rattle.std.specs.Option.{option_map_or}
use Rattle.std.specs.List.{list_any}
use Rattle.std.specs.FinMap as map
use Rattle.rk_names.specs.declared.errors.KeyError.{KeyError}
use Rattle.rk_keys.specs.declared.key.Standing.{Standing}
use Rattle.rk_keys.specs.Key.{standing_of, key_passes, is_building}
use Rattle.rk_keys.specs.Known.{Known}
use Rattle.rk_rings.specs.Ring.{is_linked}
use Rattle.rk_rings.specs.Numbered.{Rings, IsMatch}
use Rattle.rk_machine.specs.World.{World}
use Rattle.rk_machine.specs.Search.{Query, Hits, answers, has_match, blocks, is_stale, errors}
use Rattle.rk_core.specs.declared.search.Match.{Match}
use Rattle.rk_core.specs.declared.search.Sought.{Sought}
use Rattle.rk_core.specs.declared.search.Sought.TheVariants.{Positive, Building, Missed}

-- ---- in one ring

-- the key that was found, and how it stands
abbrev pub matched : Known → ℕ → Option ℕ → Option Match
matched known now found = option_and_then (λ k. option_map (λ key. record { key = k; standing = standing_of key now }) (map.get known.keys k)) found

-- it is the one key in the ring that has the name
abbrev pub IsSole : World → Query → Option ℕ → Option Match → Type 0
IsSole w q None m = m ≡ None
IsSole w q (Some ring) m =
    (p : Standing → Bool) (k : ℕ) → (is_linked w.rings ring k && key_passes w.keys k (answers q p))
    ≡ option_map_or (λ one. (k == one.key) && p one.standing) m false

-- what is found by this number is the one key in the ring that has the name
abbrev pub IsNumberOf : World → Query → Known → Rings → ℕ → Type 0
IsNumberOf w q known rings name = (ring found : Option ℕ) → IsMatch rings name ring found → IsSole w q ring (matched known q.now found)

-- ---- in one ring after the other

-- the first error, in the order of errors, of the keys of the name in these rings that stand so
abbrev pub error_in : World → Query → List ℕ → (KeyError → Standing → Bool) → Option KeyError
error_in w q rings stands = find (λ e. list_any (has_match w q (stands e)) rings) errors

-- what a search of these rings comes to: its first hit and how that stands, or the errors of the keys that are none
abbrev pub IsSought : World → Query → List ℕ → Sought → Type 0
IsSought w q rings (Positive k) = Hits w q rings (Some k) × (key_passes w.keys k (λ key. not (is_building key)) ≡ true)
IsSought w q rings (Building k) = Hits w q rings (Some k) × (key_passes w.keys k is_building ≡ true)
IsSought w q rings (Missed missed) =
    Hits w q rings None × (missed.block ≡ error_in w q rings blocks) × (missed.stale ≡ error_in w q rings is_stale)
