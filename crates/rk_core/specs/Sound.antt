-- What holds of every world that a run leads to.
use Rattle.std.specs.Prelude.{◌≡◌, ℕ, true, false, is_some, None}
use Rattle.std.specs.FinMap as map
use Rattle.std.specs.FinSet as set
use Rattle.rk_keys.specs.Key.{key_passes, is_building}
use Rattle.rk_auth.specs.Sessions.{unspent}
use Rattle.rk_machine.specs.World.{World}
use Rattle.rk_core.specs.Vanishing.{StayBut}

-- what holds of the world of every book
pub record IsSound (w : World) : Type 0 where
  -- no key has a serial that was not drawn
  pub keys : (k : ℕ) → set.contains w.serials.used k ≡ false → map.get w.keys k ≡ None
  -- nor has a ring
  pub rings : (k : ℕ) → set.contains w.serials.used k ≡ false → map.get w.rings k ≡ None
  -- nor has a construction
  pub constructions : (k : ℕ) → set.contains w.serials.used k ≡ false → map.get w.sessions.constructions k ≡ None
  -- the key of an unspent authority is under construction
  pub building : (k : ℕ) → is_some (unspent w.sessions k) ≡ true → key_passes w.keys k is_building ≡ true
  -- every key has a link or is under construction
  pub tidy : StayBut (λ k. false) w
