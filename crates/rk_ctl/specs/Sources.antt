-- Bytes that stand for an argument.
use Rattle.std.specs.Prelude.{◌≡◌, ℕ, List, take, Option, Some, None}

-- they are all that is left to read, if that is known, or its first 32,768 bytes: one more than any argument may have
abbrev pub IsStart : List ℕ → Option (List ℕ) → Type 0
IsStart bytes None = Unit {0}
IsStart bytes (Some left) = bytes ≡ take 32768 left
