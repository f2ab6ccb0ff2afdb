-- What a caller sees of a table.
use Rattle.std.specs.Prelude.{ℕ, ◌+◌, refl}
use Rattle.std.specs.Coded.{Coded, code_by, coded×, coded_ℕ}
use Rattle.std.specs.Ordering.{nat_cmp}
use Rattle.std.specs.FinMap as map

-- the facts by their keys, and how many more can be put in with no memory
pub record Stored (V : Type 0) : Type 0 where
  pub facts : map.FinMap nat_cmp V
  pub room : ℕ

-- both parts in a row, the form in which a model of a struct sees them
abbrev pub stored_code : {V : Type 0} → Coded V → Coded (Stored V)
stored_code {V} v =
    code_by (map.FinMap nat_cmp V × ℕ) (coded× (map.code coded_ℕ v) coded_ℕ) (λ s. (s.facts, s.room)) (λ p. record { facts = p.0; room = p.1 }) (λ _. refl)

-- the places that there are, taken and free
abbrev pub places : {V : Type 0} → Stored V → ℕ
places s = map.len s.facts + s.room
