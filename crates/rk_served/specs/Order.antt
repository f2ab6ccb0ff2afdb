-- The order of work: of the sessions that can move, which one is next.
use Rattle.std.specs.Prelude.{◌≡◌, ℕ, true, List, [], ◌∷◌, Option, Some, None, slice_get}
use Rattle.std.specs.List.{All}
use Rattle.rk_conf.specs.declared.line.Line.{Line}
use Rattle.rk_machine.specs.Steps.{Beginning, Past}
use Rattle.rk_served.specs.declared.happening.Happening.{Happening}
use Rattle.rk_served.specs.declared.output.Output.{Output}
use Rattle.rk_served.specs.declared.peer.Peer.{Peer}
use Rattle.rk_served.specs.Left.{Left, Part, nothing}
use Rattle.rk_served.specs.Moves.{Move, CannotMove}
use Rattle.rk_served.specs.Served.{Turn, Acts, IsPassedOver, ServedBy}
use Rattle.rk_served.specs.Standing.{comes_before}

-- one move, by the first session that can: each that comes before it can't
pub record MovesFirst (conf : List Line) (now : ℕ) (old : Left) (part : Part) (new : Left) : Type 0 where
  pub index : ℕ
  pub mover : Peer
  pub at : slice_get old.peers index ≡ Some mover
  pub first : All (λ x. comes_before x.who mover.who ≡ true → CannotMove old.world x.who x.channel) old.peers
  pub move : Move conf now old index part new

-- moves, one after another, each by the first session that can
abbrev pub MovesInOrder : List Line → ℕ → Left → List Part → Left → Type 0
MovesInOrder conf now old [] new = new ≡ old
MovesInOrder conf now old (part ∷ parts) new = (mid : Left) × MovesFirst conf now old part mid × MovesInOrder conf now mid parts new

-- a happening is served, and the moves after its own step are made in order
pub record ActsInOrder (conf : List Line) (old : Left) (now : ℕ) (h : Happening) (outputs : List Output) (steps : List Past) (new : Left) : Type 0 where
  pub acts : Acts conf old now h outputs steps new
  pub in_order : MovesInOrder conf now acts.begun acts.parts new

-- a happening that has outputs, or an empty list of them, is acted on, its moves in order; one that has None is passed over
abbrev pub ServesInOrder : List Line → Left → ℕ → Happening → Option (List Output) → List Past → Left → Type 0
ServesInOrder conf old now h None steps new = IsPassedOver old h steps new
ServesInOrder conf old now h (Some outputs) steps new = ActsInOrder conf old now h outputs steps new

-- the same, of a turn
abbrev pub ServesTurnInOrder : List Line → Left → Turn → List Past → Left → Type 0
ServesTurnInOrder conf old turn steps new = ServesInOrder conf old turn.now turn.happening turn.outputs steps new

-- The turns are a served list, by this run, in the order of work, and leave this.
abbrev pub ServedInOrder : List Line → Beginning → List Turn → List Past → Left → Type 0
ServedInOrder conf from turns run left = ServedBy (ServesTurnInOrder conf) (nothing from) turns run left
