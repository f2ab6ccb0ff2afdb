-- When the bytes after those that were handed out are moved to the front of their buffer.
use Rattle.std.specs.Prelude.{◌<◌, ◌≤◌, ◌+◌, ◌-◌, ℕ}

-- more bytes have no room after these, and have it once the taken ones are away, which are at least as many as the others
abbrev pub IsWorthMoving : ℕ → ℕ → ℕ → ℕ → Type 0
IsWorthMoving len capacity taken more = (capacity < len + more) × (len - taken ≤ taken) × (len - taken + more ≤ capacity)
