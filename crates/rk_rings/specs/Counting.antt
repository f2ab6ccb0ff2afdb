-- Counts of which some are 0.
use Rattle.std.specs.Prelude.{◌-◌, ℕ, nat_lt}
use Rattle.std.specs.Ordering.{nat_cmp}
use Rattle.std.specs.FinMap as map
use Rattle.rk_table.specs.Maps.{kept_where}
use Rattle.rk_table.specs.Stored.{Stored}

-- those that are not 0
abbrev pub counting : map.FinMap nat_cmp ℕ → map.FinMap nat_cmp ℕ
counting counts = kept_where (λ _ n. nat_lt 0 n) counts

-- what a caller sees of so many places: the place of a 0 is free
abbrev pub seen_counts : map.FinMap nat_cmp ℕ → ℕ → Stored ℕ
seen_counts counts places = record { facts = counting counts; room = places - map.len (counting counts) }
