-- Links of keys in rings, by the keys' names.
use Rattle.std.specs.Prelude.{ℕ, Bool, false, not, ◌&&◌, nat_le, List, Option, Some, None}
use Rattle.std.specs.Option.{option_map_or}
use Rattle.std.specs.List.{list_any}
use Rattle.std.specs.Ordering.{nat_cmp}
use Rattle.std.specs.FinMap as map
use Rattle.std.specs.FinSet as set
use Rattle.rk_names.specs.declared.errors.Errno.{Errno}
use Rattle.rk_names.specs.declared.errors.Errno.TheVariants as errno
use Rattle.rk_table.specs.Maps.{changed_at}
use Rattle.rk_keys.specs.declared.key.Key.{Key}
use Rattle.rk_keys.specs.Key.{key_passes, has_name, is_rival}
use Rattle.rk_rings.specs.Ring.{Ring, with_link, without_link, without_links}
use Rattle.rk_machine.specs.World.{World}
use Rattle.rk_machine.specs.Allowed.{refused_if}

-- the ring is changed, if there is one
abbrev pub rings_changed : Option ℕ → (Ring → Ring) → map.FinMap nat_cmp Ring → map.FinMap nat_cmp Ring
rings_changed None f rings = rings
rings_changed (Some ring) f rings = changed_at ring f rings

-- k is linked in the ring. It displaces a key of the same name, and nothing changes if it is there: request-key.rst
abbrev pub linked_in : Option ℕ → ℕ → World → World
linked_in ring k w = record w { rings = rings_changed ring (with_link (is_rival w.keys k) k) w.rings }

-- k is not linked in the ring
abbrev pub unlinked_in : Option ℕ → ℕ → World → World
unlinked_in ring k w = record w { rings = rings_changed ring (without_link k) w.rings }

-- no key is linked in the ring
abbrev pub cleared_in : Option ℕ → World → World
cleared_in ring w = record w { rings = rings_changed ring without_links w.rings }

-- some key in the ring has this name: the key itself, or one that would be displaced
abbrev pub holds_name : map.FinMap nat_cmp Key → Ring → List ℕ → List ℕ → Bool
holds_name keys r typ description = list_any (λ k. has_name keys k typ description) (set.items r.keys)

-- no room for a key of that name: 256 links, and none to a key of that name
abbrev pub is_full : map.FinMap nat_cmp Key → List ℕ → List ℕ → Ring → Bool
is_full keys typ description r = nat_le 256 (set.len r.keys) && not (holds_name keys r typ description)

-- the ring is there, and has no room for a key of that name
abbrev pub is_full_at : World → ℕ → List ℕ → List ℕ → Bool
is_full_at w ring typ description = option_map_or (is_full w.keys typ description) (map.get w.rings ring) false

-- no room for the key k
abbrev pub is_full_for : World → ℕ → ℕ → Bool
is_full_for w ring k = key_passes w.keys k (λ key. is_full_at w ring key.typ key.description)

-- EDQUOT if a ring is named that is full for k
abbrev pub full_refusal : World → Option ℕ → ℕ → Option Errno
full_refusal w None k = None
full_refusal w (Some ring) k = refused_if (is_full_for w ring k) errno.Edquot
