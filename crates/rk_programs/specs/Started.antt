-- What is started for a command.
use Rattle.std.specs.Prelude.{◌≡◌, ◌≢◌, ℕ, Bool, true, false, List, Option, Some, None, codes}
use Rattle.rk_variables.specs.Starts.{Start}
use Rattle.rk_macro.specs.declared.command.Command.{Command}

-- the program at the command's path, with its words, in the environment and the folder of the daemon
pub record IsCalled (command : Command) (s : Start) : Type 0 where
  pub program : s.program ≡ command.path
  pub words : s.words ≡ command.words
  pub same : (name : List ℕ) → s.variable name ≡ None
  pub keeps : s.clears ≡ false
  pub folder : s.folder ≡ None

-- the variables of a handler that asks, without a library and with one, which is preloaded and finds the daemon at standard input and output. No socket is
-- named, since the daemon is at these, and all others are the daemon's
abbrev pub Told : Option (List ℕ) → (List ℕ → Option (Option (List ℕ))) → Type 0
Told None variable = (variable (codes "REQKEYD_SOCKET") ≡ Some None) × ((name : List ℕ) → name ≢ codes "REQKEYD_SOCKET" → variable name ≡ None)
Told (Some library) variable = (variable (codes "LD_PRELOAD") ≡ Some (Some library)) × (variable (codes "REQKEYD_STREAMS") ≡ Some (Some (codes "0,1")))
    × (variable (codes "REQKEYD_SOCKET") ≡ Some None)
    × ((name : List ℕ) → name ≢ codes "LD_PRELOAD" → name ≢ codes "REQKEYD_STREAMS" → name ≢ codes "REQKEYD_SOCKET" → variable name ≡ None)

-- the variables of a handler, by whether it is piped: one that is does not ask, and has all as the daemon has them
abbrev pub ToldTo : Bool → Option (List ℕ) → (List ℕ → Option (Option (List ℕ))) → Type 0
ToldTo true keyutils variable = (name : List ℕ) → variable name ≡ None
ToldTo false keyutils variable = Told keyutils variable

-- the program at the command's path, with its words, in the daemon's folder, and with these variables
pub record IsOf (command : Command) (keyutils : Option (List ℕ)) (s : Start) : Type 0 where
  pub program : s.program ≡ command.path
  pub words : s.words ≡ command.words
  pub told : ToldTo command.piped keyutils s.variable
  pub keeps : s.clears ≡ false
  pub folder : s.folder ≡ None
