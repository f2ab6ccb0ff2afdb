-- Counts by number.
use Rattle.std.specs.Prelude.{◌≡◌, ◌<◌, ℕ, Some, unwrap_or}
use Rattle.std.specs.Ordering.{nat_cmp}
use Rattle.std.specs.FinMap as map

-- the count at this number, and 0 if none is held
abbrev pub count_at : map.FinMap nat_cmp ℕ → ℕ → ℕ
count_at counts k = unwrap_or (map.get counts k) 0

-- none is held that is 0
abbrev pub ArePositive : map.FinMap nat_cmp ℕ → Type 0
ArePositive counts = (k n : ℕ) → map.get counts k ≡ Some n → 0 < n
