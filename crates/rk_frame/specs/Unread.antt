-- What a caller sees of the frames of a stream.
use Rattle.std.specs.Prelude.{ℕ, List}

-- the bytes that were fed and not handed out, and how many more can be fed with no memory
pub record Unread : Type 0 where
  pub bytes : List ℕ
  pub room : ℕ
