-- Rings that are put in one after the other.
use Rattle.std.specs.Prelude.{◌≡◌, ℕ, List, [], ◌∷◌, None}
use Rattle.std.specs.FinMap as map
use Rattle.rk_rings.specs.Numbered.{Numbered, Rings}

-- each ring is there at its serial
abbrev pub with_entries : List (ℕ × Numbered) → Rings → Rings
with_entries [] rings = rings
with_entries (e ∷ es) rings = with_entries es (map.insert rings e.0 e.1)

-- each serial is new when its ring is put in
abbrev pub HasEachNew : List (ℕ × Numbered) → Rings → Type 0
HasEachNew [] rings = Unit {0}
HasEachNew (e ∷ es) rings = (map.get rings e.0 ≡ None) × HasEachNew es (map.insert rings e.0 e.1)
