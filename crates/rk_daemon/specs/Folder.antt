-- What is done in the folder of a record.
use Rattle.std.specs.Prelude.{ℕ, Bool, List, Option}

-- what is done: a new file is made at a path, unless that fails, with what it has at first, if it tells that; it is handed to the system whole, with what
-- it has, if it tells that; a file gets a second path; the file at a path is removed. Whether that was done comes last
pub data Act : Type 0 where
  Created : List ℕ → Option (Option (List ℕ)) → Act
  Flushed : Option (List ℕ) → Bool → Act
  Linked : List ℕ → List ℕ → Bool → Act
  Removed : List ℕ → Bool → Act
