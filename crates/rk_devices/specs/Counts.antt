-- Counts of failures and of reads.
use Rattle.std.specs.Prelude.{ℕ, ◌≡◌, ◌<◌, ◌+◌, ◌⊎◌, min, max, nat_lt, if◌then◌else◌, Result, Ok, Err}
use Rattle.rk_devices.specs.declared.device.DeviceFault.{DeviceFault}

-- the greatest count, at which a count stays
abbrev pub most : ℕ
most = 18446744073709551615

-- a count rose; one that stands at the greatest counts as risen
abbrev pub Rose : ℕ → ℕ → Type 0
Rose before after = (before < after) ⊎ ((before ≡ most) × (after ≡ most))

-- a sum of counts, at most the greatest
abbrev pub both : ℕ → ℕ → ℕ
both a b = min (a + b) most

-- one more; a count that stands at the greatest stays there
abbrev pub raised : ℕ → ℕ
raised n = if nat_lt n most then n + 1 else n

-- so many more; a count that stands at the greatest stays there
abbrev pub raised_by : ℕ → ℕ → ℕ
raised_by more n = max n (min (n + more) most)

-- a call that failed raised the count; any other left it
abbrev pub IsRaised : {A : Type 0} → Result A DeviceFault → ℕ → ℕ → Type 0
IsRaised (Ok x) before after = after ≡ before
IsRaised (Err e) before after = Rose before after
