-- Which keys stay, and how the others are taken away one by one.
use Rattle.std.specs.Prelude.{◌≡◌, ℕ, ⊤, Bool, true, false, not, ◌&&◌, ◌||◌, ◌==◌, Option, Some, None, Result, Ok, Err, if◌then◌else◌}
use Rattle.std.specs.Option.{option_map_or}
use Rattle.std.specs.Ordering.{nat_cmp}
use Rattle.std.specs.FinMap as map
use Rattle.rk_names.specs.declared.errors.Errno.{Errno}
use Rattle.rk_keys.specs.declared.key.Key.{Key}
use Rattle.rk_keys.specs.Key.{key_passes, is_building, is_rival}
use Rattle.rk_rings.specs.Ring.{Ring, has_link, is_linked}
use Rattle.rk_machine.specs.Links.{full_refusal, linked_in}
use Rattle.rk_machine.specs.World.{World, tidied}

-- a key that has a link or is under construction stays
abbrev pub stays : World → ℕ → Bool
stays w k = has_link w.rings k || key_passes w.keys k is_building

-- every key stays, but for some
abbrev pub StayBut : (ℕ → Bool) → World → Type 0
StayBut some w = (k : ℕ) (key : Key) → map.get w.keys k ≡ Some key → some k ≡ false → stays w k ≡ true

-- this key is taken away, where it does not stay
abbrev pub vanished_at : ℕ → World → World
vanished_at k w = record w { keys = if stays w k then w.keys else map.remove w.keys k }

-- the ring is not there
abbrev pub without_ring : ℕ → World → World
without_ring ring w = record w { rings = map.remove w.rings ring }

-- j is linked in the ring, and gives way where k is linked there
abbrev pub rival_in : World → Option ℕ → ℕ → ℕ → Bool
rival_in w ring k j = option_map_or (λ r. (not (is_linked w.rings r k) && is_linked w.rings r j) && is_rival w.keys k j) ring false

-- the key is linked in the ring, if one is given, and the key that gives way is told; or the ring is full for it, and nothing has changed
abbrev pub PutsLink : World → Option ℕ → ℕ → Result (Option ℕ) Errno → World → Type 0
PutsLink old ring k (Ok rival) new =
    (full_refusal old ring k ≡ None) × (new ≡ linked_in ring k old) × ((j : ℕ) → rival_in old ring k j ≡ option_map_or (λ r. j == r) rival false)
PutsLink old ring k (Err error) new = (full_refusal old ring k ≡ Some error) × (new ≡ old)

-- the same, and a key that gives way vanishes with its last link
abbrev pub Links : World → Option ℕ → ℕ → Result ⊤ Errno → World → Type 0
Links old ring k (Ok done) new = (full_refusal old ring k ≡ None) × (new ≡ tidied (linked_in ring k old))
Links old ring k (Err error) new = (full_refusal old ring k ≡ Some error) × (new ≡ old)

-- the rings without this one, if one is given
abbrev pub removed_if : Option ℕ → map.FinMap nat_cmp Ring → map.FinMap nat_cmp Ring
removed_if None rings = rings
removed_if (Some ring) rings = map.remove rings ring

-- the world without this ring, if one is given
abbrev pub without_if : Option ℕ → World → World
without_if ring w = record w { rings = removed_if ring w.rings }

-- the session ring that goes with a client: none if another client has it
abbrev pub session_goes : Bool → ℕ → Option ℕ
session_goes shared ring = if shared then None else Some ring
