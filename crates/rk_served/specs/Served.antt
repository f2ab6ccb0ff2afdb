-- Served lists: happenings, what was output for each, and the run of the machine that they are.
use Rattle.std.specs.Prelude.{◌≡◌, ℕ, List, [], ◌∷◌, ◌++◌, reverse, Option, Some, None, true, false}
use Rattle.std.specs.List.{flat_map}
use Rattle.rk_conf.specs.declared.line.Line.{Line}
use Rattle.rk_machine.specs.Laws.{ContinuesTo}
use Rattle.rk_machine.specs.Steps.{Beginning, Past}
use Rattle.rk_served.specs.declared.happening.Happening.{Happening}
use Rattle.rk_served.specs.declared.output.Output.{Output}
use Rattle.rk_served.specs.Left.{Left, Part, nothing}
use Rattle.rk_served.specs.Moves.{Moves, IsAtRest}
use Rattle.rk_served.specs.OwnStep.{is_misplaced, OwnStep}

-- a happening at a moment, and what was output for it; None if it was out of place
pub record Turn : Type 0 where
  pub now : ℕ
  pub happening : Happening
  pub outputs : Option (List Output)

-- the steps of all parts, those of one part after those of the other
abbrev pub steps_of : List Part → List Past
steps_of parts = flat_map (λ p. p.steps) parts

-- what all parts output, that of one part after that of the other
abbrev pub outputs_of : List Part → List Output
outputs_of parts = flat_map (λ p. p.outputs) parts

-- its own step, and then moves until no session can move
pub record Acts (conf : List Line) (old : Left) (now : ℕ) (h : Happening) (outputs : List Output) (steps : List Past) (new : Left) : Type 0 where
  pub in_place : is_misplaced old.world h ≡ false
  pub own : Part
  pub begun : Left
  pub parts : List Part
  pub own_step : OwnStep conf now h old own begun
  pub moves : Moves conf now begun parts new
  pub at_rest : IsAtRest new
  pub outputs_are : outputs ≡ own.outputs ++ outputs_of parts
  pub steps_are : steps ≡ own.steps ++ steps_of parts

-- what is out of place has no steps and no outputs
pub record IsPassedOver (old : Left) (h : Happening) (steps : List Past) (new : Left) : Type 0 where
  pub misplaced : is_misplaced old.world h ≡ true
  pub no_steps : steps ≡ []
  pub same : new ≡ old

-- a happening that has outputs, or an empty list of them, is acted on, and puts them out; one that has None is passed over
abbrev pub ServesBy : List Line → Left → ℕ → Happening → Option (List Output) → List Past → Left → Type 0
ServesBy conf old now h None steps new = IsPassedOver old h steps new
ServesBy conf old now h (Some outputs) steps new = Acts conf old now h outputs steps new

-- the same, of a turn
abbrev pub Serves : List Line → Left → Turn → List Past → Left → Type 0
Serves conf old turn steps new = ServesBy conf old turn.now turn.happening turn.outputs steps new

-- the turns are served by this run, cut into one part for each that serves it so
abbrev pub ServedBy : (Left → Turn → List Past → Left → Type 0) → Left → List Turn → List Past → Left → Type 0
ServedBy ServesSo old [] run new = (run ≡ []) × (new ≡ old)
ServedBy ServesSo old (turn ∷ turns) run new =
    (steps : List Past) × (rest : List Past) × (mid : Left) × (run ≡ steps ++ rest) × ServesSo old turn steps mid × ServedBy ServesSo mid turns rest new

-- The turns are a served list, by this run, and leave this.
abbrev pub Served : List Line → Beginning → List Turn → List Past → Left → Type 0
Served conf from turns run left = ServedBy (Serves conf) (nothing from) turns run left

-- Whatever served list left old, that list with this turn is served, and leaves new. Its steps with those of the turn, the newest first, are a
-- run of the machine to the world that is left, and obey the laws of every run.
abbrev pub ServesNext : List Line → Left → Turn → Left → Type 0
ServesNext conf old turn new =
    (from : Beginning) (turns : List Turn) (run : List Past) → Served conf from turns run old →
    (steps : List Past) × Served conf from (turns ++ turn ∷ []) (run ++ steps) new × ContinuesTo from (reverse (run ++ steps)) new.world

-- The steps of a served list, the newest first, are a run of the machine to the world that it leaves, and obey the laws of every run.
abbrev pub ServedIsRun : Type 0
ServedIsRun = (conf : List Line) (from : Beginning) (turns : List Turn) (run : List Past) (left : Left) →
    Served conf from turns run left → ContinuesTo from (reverse run) left.world
