-- The handlers that run.
use Rattle.std.specs.Prelude.{◌≡◌, ℕ, Bool, ◌-◌, ◌&&◌, is_some, nat_le, List, Option, Some, None, option_map, slice_get, slice_set}
use Rattle.rk_daemon.specs.declared.figures.Oldest.{Oldest}
use Rattle.rk_daemon.specs.declared.handlers.Started.{Started}

-- it has run for so many seconds, and that was not told
abbrev pub is_slow : ℕ → ℕ → Started → Bool
is_slow now seconds s = is_some s.purpose && nat_le seconds (now - s.since)

-- the one at a place is told, if there is one
abbrev pub told_at : List Started → ℕ → Option Started → List Started
told_at all at None = all
told_at all at (Some s) = slice_set all at (record s { purpose = None })

-- the one at this place, which is told now; or none: before, what it came to, and after
abbrev pub IsTaken : Option ℕ → List Started → Option Started → List Started → Type 0
IsTaken None old result new = (result ≡ None) × (new ≡ old)
IsTaken (Some at) old result new = (result ≡ slice_get old at) × (new ≡ told_at old at (slice_get old at))

-- the one that was started first, if one runs
abbrev pub oldest_of : ℕ → List Started → Option Oldest
oldest_of now all = option_map (λ s. record { key = s.key; seconds = now - s.since }) (slice_get all 0)
