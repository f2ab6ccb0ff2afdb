-- What is started of a command.
use Rattle.std.specs.Prelude.{◌≡◌, ◌≢◌, ℕ, Bool, List, Option, Some}
use Rattle.std.specs.declared.process.command.Command.{Command}
use Rattle.std.specs.Process.{command_program, command_args, command_var, command_dir, clears_env}

-- the program and its words; what a variable is set to; whether all others are removed; and in which folder, if another. A variable is `Some None`
-- if it is removed, and `None` if it stays as it is
pub record Start : Type 0 where
  pub program : List ℕ
  pub words : List (List ℕ)
  pub variable : List ℕ → Option (Option (List ℕ))
  pub clears : Bool
  pub folder : Option (List ℕ)

-- the same, of a command
abbrev pub start_of : {A : Type 0} → Command A → Start
start_of c = record {
  program = command_program c;
  words = command_args c;
  variable = command_var c;
  clears = clears_env c;
  folder = command_dir c;
}

-- one variable is set, or removed, and nothing else
pub record Sets (name : List ℕ) (value : Option (List ℕ)) (old new : Start) : Type 0 where
  pub set : new.variable name ≡ Some value
  pub others : (other : List ℕ) → other ≢ name → new.variable other ≡ old.variable other
  pub program : new.program ≡ old.program
  pub words : new.words ≡ old.words
  pub keeps : new.clears ≡ old.clears
  pub folder : new.folder ≡ old.folder
