-- The links of a ring by the numbers of their names.
use Rattle.std.specs.Prelude.{◌≡◌, ℕ, List, [], ◌∷◌, Option, Some, None}
use Rattle.std.specs.Ordering.{nat_cmp}
use Rattle.std.specs.FinMap as map
use Rattle.rk_names.specs.Numbers.{serial_of}

-- what one map has at a, the other has the other way round
abbrev pub IsTurned : map.FinMap nat_cmp ℕ → map.FinMap nat_cmp ℕ → Type 0
IsTurned links turned = (k n : ℕ) → map.get links k ≡ Some n → map.get turned n ≡ Some k

-- each key that is linked stands at the number of its name, and nothing else does
pub record AreByName (links by_name : map.FinMap nat_cmp ℕ) : Type 0 where
  pub found : IsTurned links by_name
  pub linked : IsTurned by_name links
  pub as_many : map.len by_name ≡ map.len links

-- the name stands for this key from now on, or for none
abbrev pub with_name : map.FinMap nat_cmp ℕ → ℕ → Option ℕ → map.FinMap nat_cmp ℕ
with_name by_name n None = map.remove by_name n
with_name by_name n (Some k) = map.insert by_name n k

-- the keys that names stand for, by the first entry of each name
abbrev pub named : List (ℕ × Option ℕ) → map.FinMap nat_cmp ℕ
named [] = map.empty
named (e ∷ es) = with_name (named es) e.0 e.1

-- one more key, which is a serial, stands at its name
abbrev pub turned_more : map.FinMap nat_cmp ℕ → ℕ × ℕ → map.FinMap nat_cmp ℕ
turned_more by_name e = with_name by_name e.1 (serial_of e.0)
