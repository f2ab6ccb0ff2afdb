-- The leftmost fault of a body: the fields before it are there and keep their rules.
use Rattle.std.specs.Prelude.{◌≡◌, ◌<◌, ◌++◌, ℕ, List, [], ◌∷◌, length, Err, MatchOption, ◌⊎◌}
use Rattle.rk_message.specs.declared.fault.Fault.{Fault}
use Rattle.rk_message.specs.declared.fault.Fault.TheVariants.{Trailing, Short, UnknownOp}
use Rattle.rk_message.specs.Wire.{Value, Kind, Fields, spelled, IsValue, kinds_of}
use Rattle.rk_message.specs.Reading.{value_at}

-- the first field has the fault, or it is there and those after it have the fault; bytes after the last are one too
abbrev pub IsLeftmost : List Kind → List ℕ → Fault → Type 0
IsLeftmost [] bytes f = (0 < length bytes) × (f ≡ Trailing)
IsLeftmost (k ∷ ks) bytes f = (value_at k bytes ≡ Err f) ⊎ ((v : Value) × (rest : List ℕ) × IsValue k v × (bytes ≡ spelled v ++ rest) × IsLeftmost ks rest f)

-- an empty body is short; else the table lacks the first byte, or the fields after it have the fault
abbrev pub IsFaultOf : Fields → List ℕ → Fault → Type 0
IsFaultOf lines [] f = f ≡ Short
IsFaultOf lines (op ∷ rest) f = MatchOption (kinds_of lines op) (f ≡ UnknownOp) (λ ks. IsLeftmost ks rest f)
