-- A test and the fact that it tells.
use Rattle.std.specs.Prelude.{Bool}
use Rattle.std.specs.Bool.{MatchBool}

-- the test says whether the fact holds
abbrev pub Says : Bool → Type 0 → Type 0
Says b P = MatchBool b P (¬ P)
