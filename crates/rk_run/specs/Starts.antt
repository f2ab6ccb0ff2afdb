-- What is started in a session ring.
use Rattle.std.specs.Prelude.{◌≡◌, ◌≢◌, ℕ, false, List, [], ◌∷◌, ◌++◌, Option, Some, None, codes, decimal}
use Rattle.rk_variables.specs.Starts.{Start}
use Rattle.rk_run.specs.Words.{Said}

-- a library, and after it what was to be preloaded before; a colon stands between them (ld.so(8))
abbrev pub preloads : List ℕ → Option (List ℕ) → List ℕ
preloads library None = library
preloads library (Some []) = library
preloads library (Some (b ∷ bs)) = library ++ codes ":" ++ (b ∷ bs)

-- a program with its words, in the environment and the folder where it is called
pub record IsCalled (path : List ℕ) (arguments : List (List ℕ)) (s : Start) : Type 0 where
  pub program : s.program ≡ path
  pub words : s.words ≡ arguments
  pub same : (name : List ℕ) → s.variable name ≡ None
  pub keeps : s.clears ≡ false
  pub folder : s.folder ≡ None

-- the program that is wanted, with its words, in the folder where it is called. It preloads the library, and gets the daemon's socket and its session
-- ring; it is not told that it is a handler; all other variables are as they are
pub record IsStart (said : Said) (library : List ℕ) (before : Option (List ℕ)) (path : List ℕ) (ring : ℕ) (s : Start) : Type 0 where
  pub program : s.program ≡ said.program
  pub words : s.words ≡ said.words
  pub preload : s.variable (codes "LD_PRELOAD") ≡ Some (Some (preloads library before))
  pub socket : s.variable (codes "REQKEYD_SOCKET") ≡ Some (Some path)
  pub join : s.variable (codes "REQKEYD_JOIN") ≡ Some (Some (decimal ring))
  pub streams : s.variable (codes "REQKEYD_STREAMS") ≡ Some None
  pub others : (name : List ℕ) → name ≢ codes "LD_PRELOAD" → name ≢ codes "REQKEYD_SOCKET" → name ≢ codes "REQKEYD_JOIN" → name ≢ codes "REQKEYD_STREAMS"
      → s.variable name ≡ None
  pub keeps : s.clears ≡ false
  pub folder : s.folder ≡ None

-- reqkey-trap, the program at a path, with the socket of the daemon, and after `--` the program that is wanted with its words; all variables are as they are
abbrev pub IsTrapped : Said → List ℕ → List ℕ → Start → Type 0
IsTrapped said trap socket s = IsCalled trap (codes "--socket" ∷ socket ∷ codes "--" ∷ said.program ∷ said.words) s
