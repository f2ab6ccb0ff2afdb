-- The rings of a context, by their places. Only which serials are live rings matters, whatever a ring is.
use Rattle.std.specs.Prelude.{ℕ, ℤ, pos, negsuc, Bool, false, ◌==◌, List, [], ◌∷◌, ◌++◌, Option, Some, None, option_to_list, unwrap_or, if◌then◌else◌}
use Rattle.std.specs.Option.{option_map_or}
use Rattle.std.specs.List.{list_any}
use Rattle.std.specs.Ordering.{nat_cmp}
use Rattle.std.specs.FinMap as map
use Rattle.rk_names.specs.declared.context.Context.{Context}
use Rattle.rk_names.specs.declared.context.Setting.{Setting}
use Rattle.rk_names.specs.declared.context.Setting.TheVariants as setting
use Rattle.rk_rings.specs.declared.place.Place.{Place}
use Rattle.rk_rings.specs.declared.place.Place.TheVariants as place

-- ---- what an ask names: keyctl(2), "Key serial numbers"

-- 0 for none, -1 to -4, -8, or a number; no other negative number names a place
abbrev pub place_named : ℤ → Option Place
place_named (pos n) = if n == 0 then Some place.Nowhere else Some (place.Numbered n)
place_named (negsuc n) =
    if n == 0 then Some place.Thread
    else (if n == 1 then Some place.Process
    else (if n == 2 then Some place.Session
    else (if n == 3 then Some place.User
    else (if n == 7 then Some place.Requestor else None))))

-- ---- whose rings: request_key(2), "the thread, process and session keyrings are searched in that order"

-- the rings of a context, in the order of search. A dropped one is not live
abbrev pub rings_of : Context → List ℕ
rings_of c = option_to_list c.thread ++ (option_to_list c.process ++ (c.session ∷ c.user ∷ []))

-- the number is one of these
abbrev pub is_one_of : ℕ → List ℕ → Bool
is_one_of n ns = list_any (λ m. m == n) ns

-- a dropped ring counts as absent
abbrev pub live : {R : Type 0} → map.FinMap nat_cmp R → Option ℕ → Option ℕ
live rings None = None
live rings (Some ring) = if map.contains_key rings ring then Some ring else None

-- the ring at that place of the context, if there is one
abbrev pub ring_at : {R : Type 0} → map.FinMap nat_cmp R → Context → Option ℕ → Place → Option ℕ
ring_at rings c requestor place.Nowhere = None
ring_at rings c requestor place.Thread = live rings c.thread
ring_at rings c requestor place.Process = live rings c.process
ring_at rings c requestor place.Session = live rings (Some c.session)
ring_at rings c requestor place.User = live rings (Some c.user)
ring_at rings c requestor place.Requestor = live rings requestor
ring_at rings c requestor (place.Numbered ring) = if is_one_of ring (rings_of c) then live rings (Some ring) else None

-- the place is the number of a live ring
abbrev pub is_numbered_live : {R : Type 0} → map.FinMap nat_cmp R → Place → Bool
is_numbered_live rings (place.Numbered ring) = map.contains_key rings ring
is_numbered_live rings _ = false

-- ---- where a new key goes: keyctl(2), KEYCTL_SET_REQKEY_KEYRING

-- the places from the setting on. The user ring, which stays, comes after these
abbrev pub default_places : Setting → List Place
default_places setting.Thread = place.Thread ∷ place.Process ∷ place.Session ∷ []
default_places setting.Process = place.Process ∷ place.Session ∷ []
default_places setting.Session = place.Session ∷ []
default_places setting.User = []
default_places setting.Default = place.Requestor ∷ place.Thread ∷ place.Process ∷ place.Session ∷ []
default_places setting.Requestor = place.Requestor ∷ place.Thread ∷ place.Process ∷ place.Session ∷ []

-- the ring at the first of these places that has one
abbrev pub first_ring : {R : Type 0} → map.FinMap nat_cmp R → Context → Option ℕ → List Place → Option ℕ
first_ring rings c requestor [] = None
first_ring rings c requestor (p ∷ ps) = option_map_or (λ ring. Some ring) (ring_at rings c requestor p) (first_ring rings c requestor ps)

-- the first live ring from the setting on
abbrev pub default_ring : {R : Type 0} → map.FinMap nat_cmp R → Context → Option ℕ → Setting → ℕ
default_ring rings c requestor s = unwrap_or (first_ring rings c requestor (default_places s)) c.user
