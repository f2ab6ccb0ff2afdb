-- What the tables keep of keys and rings beside the world: the numbers of names.
use Rattle.std.specs.Prelude.{◌≡◌, ℕ, Some}
use Rattle.std.specs.FinMap as map
use Rattle.rk_keys.specs.Known.{Known}
use Rattle.rk_rings.specs.Numbered.{Numbered, Rings, rings_seen}
use Rattle.rk_auth.specs.Sessions.{Sessions}
use Rattle.rk_machine.specs.World.{World}

-- the world of keys, rings and sessions; a ring is seen as the set of its keys
abbrev pub world_of : ℕ → Known → Rings → Sessions → World
world_of negative known rings sessions =
    record { negative = negative; keys = known.keys; rings = rings_seen rings; serials = known.serials; sessions = sessions }

-- the keys and the rings agree on names
pub record NumbersAgree (known : Known) (rings : Rings) : Type 0 where
  -- each link has the number of its key's name
  pub numbered : (ring k n : ℕ) (r : Numbered) → map.get rings ring ≡ Some r → map.get r.links k ≡ Some n → map.get known.numbers k ≡ Some n
