-- What is done on the line to a client.
use Rattle.std.specs.Prelude.{ℕ, List, Result, Ok, Err}
use Rattle.std.specs.IoError.{error_kind}
use Rattle.std.specs.declared.io.Error.{Error}
use Rattle.std.specs.declared.io.ErrorKind.{ErrorKind}

-- what is done: it is read, bytes are offered to it, or the clock is looked at, which shows this second. What a call came to: so many bytes, or a failure
pub data Act : Type 0 where
  HasRead : Result ℕ ErrorKind → Act
  HasWritten : List ℕ → Result ℕ ErrorKind → Act
  Looked : ℕ → Act

-- what a call came to: its value, or in which way it has failed
abbrev pub outcome : {A : Type 0} → Result A Error → Result A ErrorKind
outcome (Ok x) = Ok x
outcome (Err e) = Err (error_kind e)
