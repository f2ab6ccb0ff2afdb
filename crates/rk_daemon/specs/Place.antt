-- What is done at the path of a socket.
use Rattle.std.specs.Prelude.{ℕ, Bool, true, false, List, Option, None, Some, Result, Ok, Err}
use Rattle.std.specs.IoError.{error_kind}
use Rattle.std.specs.declared.io.Error.{Error}
use Rattle.std.specs.declared.io.ErrorKind.{ErrorKind}
use Rattle.std.specs.declared.io.ErrorKind.TheVariants.{ConnectionRefused, NotFound}
use Rattle.rk_daemon.specs.declared.place.FileId.{FileId}

-- what is done: a socket is bound to a path, unless that fails, in some way; the file there gets permissions; the socket listens; it is seen whether the one
-- at a path is left over, and which file is there, unless that can't be seen; the file is removed
pub data Act : Type 0 where
  Bound : List ℕ → Option ErrorKind → Act
  Permitted : List ℕ → ℕ → Bool → Act
  Listened : Bool → Act
  Probed : List ℕ → Option Bool → Act
  Identified : List ℕ → Option FileId → Act
  Removed : List ℕ → Bool → Act

-- how it has failed, if it has
abbrev pub failure : {A : Type 0} → Result A Error → Option ErrorKind
failure (Ok x) = None
failure (Err e) = Some (error_kind e)

-- whether a connect that has failed so has found nobody who listens: it was refused, or no file is there
abbrev pub is_of_nobody : ErrorKind → Bool
is_of_nobody ConnectionRefused = true
is_of_nobody NotFound = true
is_of_nobody kind = false
