-- How often each key is linked.
use Rattle.std.specs.Prelude.{◌≡◌, ◌≤◌, ◌*◌, ℕ, Some}
use Rattle.std.specs.FinMap as map
use Rattle.rk_table.specs.Maps.{kept_where}
use Rattle.rk_table.specs.Stored.{Stored, places}
use Rattle.rk_table.specs.Counts.{count_at, ArePositive}
use Rattle.rk_rings.specs.Numbered.{Numbered, Rings}

-- in how many rings the key is linked
abbrev pub links_of : Rings → ℕ → ℕ
links_of rings k = map.len (kept_where (λ _ r. map.contains_key r.links k) rings)

-- the counts tell in how many rings each key is linked, and have places for the 256 links of each ring
pub record AreCounted (rings : Rings) (counts : Stored ℕ) : Type 0 where
  pub few : (ring : ℕ) (r : Numbered) → map.get rings ring ≡ Some r → map.len r.links ≤ 256
  pub each : (k : ℕ) → count_at counts.facts k ≡ links_of rings k
  pub positive : ArePositive counts.facts
  pub room : 256 * map.len rings ≤ places counts
