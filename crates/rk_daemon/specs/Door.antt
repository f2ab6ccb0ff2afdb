-- What is done where connections come in.
use Rattle.std.specs.Prelude.{ℕ, Bool}

-- what is done: it is waited for a connection, or for the end of standard input, and seen whether that came first; a connection is accepted; nothing is done for
-- a while; the connection with this number is handed to the workers, of whom there still are some. Whether that was done comes last
pub data Act : Type 0 where
  Watched : Bool → Act
  Accepted : Bool → Act
  Paused : Act
  HandedOut : ℕ → Bool → Act
