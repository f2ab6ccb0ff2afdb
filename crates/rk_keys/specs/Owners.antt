-- How many keys each user has.
use Rattle.std.specs.Prelude.{◌≡◌, ℕ}
use Rattle.std.specs.Ordering.{nat_cmp}
use Rattle.std.specs.FinMap as map
use Rattle.rk_table.specs.Counts.{count_at}
use Rattle.rk_keys.specs.declared.key.Key.{Key}
use Rattle.rk_keys.specs.Known.{keys_of}

-- the counts tell how many keys each user has
pub record AreCounts (keys : map.FinMap nat_cmp Key) (counts : map.FinMap nat_cmp ℕ) : Type 0 where
  pub each : (uid : ℕ) → count_at counts uid ≡ keys_of keys uid
