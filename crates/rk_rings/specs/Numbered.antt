-- What the library keeps of a ring: beside each key the number of its name, so that names are compared without reading them.
use Rattle.std.specs.Prelude.{◌≡◌, ℕ, Bool, true, false, ◌&&◌, ◌||◌, not, nat_le, ◌==◌, List, [], ◌∷◌, Option, Some, None, refl, if◌then◌else◌}
use Rattle.std.specs.Prelude.{map as list_map}
use Rattle.std.specs.Option.{option_map_or}
use Rattle.std.specs.List.{list_any}
use Rattle.std.specs.Coded.{Coded, code_by, coded×, coded_ℕ}
use Rattle.std.specs.Ordering.{nat_cmp}
use Rattle.std.specs.FinMap as map
use Rattle.std.specs.FinSet as set
use Rattle.rk_table.specs.Maps.{kept_where}
use Rattle.rk_names.specs.Numbers.{serial_of}
use Rattle.rk_rings.specs.declared.kind.RingKind.{RingKind}
use Rattle.rk_rings.specs.declared.kind.NewRing.{NewRing}
use Rattle.rk_rings.specs.contracts.kind.RingKind as kinds
use Rattle.rk_rings.specs.Ring.{Ring, is_users}

-- a ring, and of each key that is linked in it the number of its name
pub record Numbered : Type 0 where
  pub kind : RingKind
  pub uid : ℕ
  pub links : map.FinMap nat_cmp ℕ

-- its three parts in a row, the form in which a model of a struct sees them
abbrev pub numbered_code : Coded Numbered
numbered_code =
    code_by (RingKind × (ℕ × map.FinMap nat_cmp ℕ)) (coded× kinds.the_row.coded (coded× coded_ℕ (map.code coded_ℕ coded_ℕ)))
    (λ r. (r.kind, (r.uid, r.links))) (λ p. record { kind = p.0; uid = p.1.0; links = p.1.1 }) (λ _. refl)

-- all live rings
abbrev pub Rings : Type 0
Rings = map.FinMap nat_cmp Numbered

-- the ring without the numbers
abbrev pub ring_seen : Numbered → Ring
ring_seen r = record { kind = r.kind; uid = r.uid; keys = set.from_list (map.keys r.links) }

-- each ring without the numbers
abbrev pub rings_seen : Rings → map.FinMap nat_cmp Ring
rings_seen rings = map.from_entries (list_map (λ e. (e.0, ring_seen e.1)) (map.entries rings))

-- no two keys in a ring have one name: request-key.rst, a link displaces one of the same type and description
abbrev pub HasEachNameOnce : map.FinMap nat_cmp ℕ → Type 0
HasEachNameOnce links = (j k n : ℕ) → map.get links j ≡ Some n → map.get links k ≡ Some n → j ≡ k

-- nor in any other ring
abbrev pub HaveEachNameOnce : Rings → Type 0
HaveEachNameOnce rings = (ring : ℕ) (r : Numbered) → map.get rings ring ≡ Some r → HasEachNameOnce r.links

-- each number under which something stands is a serial
abbrev pub AreSerials : {V : Type 0} → map.FinMap nat_cmp V → Type 0
AreSerials m = (k : ℕ) → map.contains_key m k ≡ true → serial_of k ≡ Some k

-- ---- what is linked

-- the key is linked in that ring
abbrev pub holds : Rings → ℕ → ℕ → Bool
holds rings ring k = option_map_or (λ r. map.contains_key r.links k) (map.get rings ring) false

-- the key is in some ring
abbrev pub is_held : Rings → ℕ → Bool
is_held rings k = list_any (λ r. map.contains_key r.links k) (map.values rings)

-- some key in the ring has the name of this number
abbrev pub has_number : Numbered → ℕ → Bool
has_number r n = list_any (λ m. m == n) (map.values r.links)

-- no room for a key of that name, None for a name that no key has: 256 links, and none to a key of that name
abbrev pub is_full : Option ℕ → Numbered → Bool
is_full name r = nat_le 256 (map.len r.links) && not (option_map_or (has_number r) name false)

-- the ring is there, and full
abbrev pub is_full_at : Rings → ℕ → Option ℕ → Bool
is_full_at rings ring name = option_map_or (is_full name) (map.get rings ring) false

-- the one key of that name in a ring, if there is one
abbrev pub IsMatch : Rings → ℕ → Option ℕ → Option ℕ → Type 0
IsMatch rings n None found = found ≡ None
IsMatch rings n (Some ring) None = (r : Numbered) → map.get rings ring ≡ Some r → (k : ℕ) → ¬ (map.get r.links k ≡ Some n)
IsMatch rings n (Some ring) (Some k) =
    (r : Numbered) × (map.get rings ring ≡ Some r) × (map.get r.links k ≡ Some n) × ((j : ℕ) → map.get r.links j ≡ Some n → j ≡ k)

-- this uid's user ring
abbrev pub is_user_ring : ℕ → Numbered → Bool
is_user_ring uid r = is_users r.kind r.uid uid

-- ---- changes

-- k, whose name has this number, takes the place of another key of that name. Nothing changes if it is there
abbrev pub links_with : ℕ → ℕ → map.FinMap nat_cmp ℕ → map.FinMap nat_cmp ℕ
links_with k n links = if map.contains_key links k then links else map.insert (kept_where (λ j m. not (m == n)) links) k n

-- the ring with k linked, whose name has the number n
abbrev pub linked : ℕ → ℕ → Numbered → Numbered
linked k n r = record r { links = links_with k n r.links }

-- the same, where the key is linked already or there is room for its name; else nothing changes
abbrev pub linked_in_room : ℕ → ℕ → Numbered → Numbered
linked_in_room k n r = if map.contains_key r.links k || not (is_full (Some n) r) then linked k n r else r

-- the ring without the link of k
abbrev pub unlinked : ℕ → Numbered → Numbered
unlinked k r = record r { links = map.remove r.links k }

-- the ring without any link
abbrev pub cleared : Numbered → Numbered
cleared r = record r { links = map.empty }

-- ---- new rings

-- a ring as it is made: no key is linked in it
abbrev pub new_ring : NewRing → Numbered
new_ring wanted = record { kind = wanted.kind; uid = wanted.uid; links = map.empty }

-- each ring is made, one after the other
abbrev pub with_rings : List NewRing → Rings → Rings
with_rings [] rings = rings
with_rings (wanted ∷ more) rings = with_rings more (map.insert rings wanted.serial (new_ring wanted))

-- each serial is new when its ring is made
abbrev pub AreNew : List NewRing → Rings → Type 0
AreNew [] rings = Unit {0}
AreNew (wanted ∷ more) rings = (map.get rings wanted.serial ≡ None) × AreNew more (map.insert rings wanted.serial (new_ring wanted))
