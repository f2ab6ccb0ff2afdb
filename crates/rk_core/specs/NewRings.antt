-- Rings that are to be made, with the serials drawn for them.
use Rattle.std.specs.Prelude.{◌≡◌, ℕ, true, false, List, [], ◌∷◌, Option, Some, None}
use Rattle.std.specs.Ordering.{nat_cmp}
use Rattle.std.specs.FinMap as map
use Rattle.std.specs.FinSet as set
use Rattle.rk_keys.specs.Serials.{Drawn}
use Rattle.rk_rings.specs.declared.kind.NewRing.{NewRing}
use Rattle.rk_rings.specs.declared.kind.RingKind.{RingKind}
use Rattle.rk_rings.specs.Ring.{Ring, empty_ring, is_users}
use Rattle.rk_machine.specs.World.{World}
use Rattle.rk_machine.specs.Hello.{Makes, has_user_ring}

-- the rings are made, one after the other
abbrev pub with_all : List NewRing → map.FinMap nat_cmp Ring → map.FinMap nat_cmp Ring
with_all [] rings = rings
with_all (one ∷ more) rings = with_all more (map.insert rings one.serial (empty_ring one.kind one.uid))

-- each is new when it is made
abbrev pub AreAllNew : List NewRing → map.FinMap nat_cmp Ring → Type 0
AreAllNew [] rings = Unit {0}
AreAllNew (one ∷ more) rings = (map.get rings one.serial ≡ None) × AreAllNew more (map.insert rings one.serial (empty_ring one.kind one.uid))

-- the world with these rings made, and with these serials
abbrev pub with_new_rings : Drawn → List NewRing → World → World
with_new_rings serials made w = record w { rings = with_all made w.rings; serials = serials }

-- rings to be made, beside those that are there
pub record AreNewRings (serials : Drawn) (made : List NewRing) (rings : map.FinMap nat_cmp Ring) : Type 0 where
  -- each has a serial that no ring has
  pub new : AreAllNew made rings
  -- and so has any ring to come, whose serial was not drawn
  pub more : (k : ℕ) → set.contains serials.used k ≡ false → map.get (with_all made rings) k ≡ None

-- beside whatever rings the first are new, the others are new, too
abbrev pub StayNewRings : Drawn → List NewRing → Drawn → List NewRing → Type 0
StayNewRings serials made more all = (rings : map.FinMap nat_cmp Ring) → AreNewRings serials made rings → AreNewRings more all rings

-- the ring that is there, where one is given, and else a new one
abbrev pub MakesOr : Option ℕ → RingKind → ℕ → World → World → ℕ → Type 0
MakesOr None kind uid old new ring = Makes kind uid old new ring
MakesOr (Some there) kind uid old new ring = (ring ≡ there) × (new ≡ old)

-- the user ring of this uid, None if it has none
abbrev pub IsUserRing : World → ℕ → Option ℕ → Type 0
IsUserRing w uid None = has_user_ring w uid ≡ false
IsUserRing w uid (Some ring) = (r : Ring) × (map.get w.rings ring ≡ Some r) × (is_users r.kind r.uid uid ≡ true)
