-- What is left of a stream.
use Rattle.std.specs.Prelude.{ℕ, List, Bool}

-- the bytes that were not used yet, and whether the stream is shut
pub record Unused : Type 0 where
  pub bytes : List ℕ
  pub is_shut : Bool
