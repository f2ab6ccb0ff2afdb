-- How much a script takes of its input.
use Rattle.std.specs.Prelude.{ℕ, ◌≤◌, List, length, Option}
use Rattle.std.specs.Io.KnownBytes.{Consumes}

-- what was left to read before and after: at most 1,048,576 pieces of 4,096 bytes were read in between
abbrev pub IsTaken : Option (List ℕ) → Option (List ℕ) → Type 0
IsTaken old new = (taken : List ℕ) × Consumes old new taken × (length taken ≤ 4294967296)
