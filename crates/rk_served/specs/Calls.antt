-- What the calls of a server do.
use Rattle.std.specs.Prelude.{◌≡◌, ◌⊎◌, ℕ, Bool, true, false, List, [], ◌∷◌, ◌++◌, Option, Some, is_some, IfSome, slice_get}
use Rattle.std.specs.Bool.{MatchBool}
use Rattle.rk_names.specs.declared.numbers.SessionId.{SessionId}
use Rattle.rk_names.specs.declared.numbers.SessionId.TheVariants.{Handler}
use Rattle.rk_conf.specs.declared.line.Line.{Line}
use Rattle.rk_macro.specs.declared.command.Command.{Command}
use Rattle.rk_macro.specs.declared.subject.Subject.{Subject}
use Rattle.rk_message.specs.Ask.{Ask}
use Rattle.rk_machine.specs.Event.{Event}
use Rattle.rk_machine.specs.declared.event.EventOf.TheVariants.{Launched, Ended}
use Rattle.rk_machine.specs.declared.event.Ran.TheVariants as ran
use Rattle.rk_machine.specs.declared.event.How.{How}
use Rattle.rk_machine.specs.declared.event.Answer.{Answer}
use Rattle.rk_machine.specs.declared.event.Answer.TheVariants as answer
use Rattle.rk_machine.specs.Steps.{Step}
use Rattle.rk_machine.specs.Views.{has_wait}
use Rattle.rk_served.specs.declared.happening.Happening.{Happening}
use Rattle.rk_served.specs.declared.output.Output.{Output}
use Rattle.rk_served.specs.declared.output.Output.TheVariants as output
use Rattle.rk_served.specs.declared.peer.Channel.TheVariants.{Starts}
use Rattle.rk_served.specs.declared.peer.Peer.{Peer}
use Rattle.rk_served.specs.declared.server.Server.{Server}
use Rattle.rk_served.specs.Left.{Left, peer, without, Part}
use Rattle.rk_served.specs.Commands.{IsCommand, HasNoCommand}
use Rattle.rk_served.specs.Moves.{Answered, Move, CannotMove}
use Rattle.rk_served.specs.OwnStep.{is_running, Adds, EndsBy, OwnStep}
use Rattle.rk_served.specs.Served.{outputs_of}
use Rattle.rk_served.specs.Order.{MovesFirst, MovesInOrder}
use Rattle.rk_served.specs.Channels.{is_open}

-- a server, seen as what is left: the world of its machine, and its peers
abbrev pub left_of : Server → Left
left_of b = record { world = b.book; peers = b.peers.items }

-- one move of the session at a place, whose outputs go to the end of what was output
pub record MovesOne (conf : List Line) (now index : ℕ) (old : Left) (put : List Output) (new : Left) (put' : List Output) : Type 0 where
  pub part : Part
  pub move : Move conf now old index part new
  pub outputs : put' ≡ put ++ part.outputs

-- one move of the first session that can, likewise
pub record MovesNext (conf : List Line) (now : ℕ) (old : Left) (put : List Output) (new : Left) (put' : List Output) : Type 0 where
  pub part : Part
  pub first : MovesFirst conf now old part new
  pub outputs : put' ≡ put ++ part.outputs

-- some moves in order, likewise
pub record MovesSome (conf : List Line) (now : ℕ) (old : Left) (put : List Output) (new : Left) (put' : List Output) : Type 0 where
  pub parts : List Part
  pub moves : MovesInOrder conf now old parts new
  pub outputs : put' ≡ put ++ outputs_of parts

-- one ask, likewise
pub record AnswersOne (conf : List Line) (now : ℕ) (old : Left) (who : SessionId) (ask : Ask) (put : List Output) (new : Left)
    (put' : List Output) : Type 0 where
  pub part : Part
  pub answered : Answered conf now old who ask part new
  pub outputs : put' ≡ put ++ part.outputs

-- the own step of a happening, likewise
pub record MakesOwnStep (conf : List Line) (now : ℕ) (h : Happening) (old : Left) (put : List Output) (new : Left) (put' : List Output) : Type 0 where
  pub part : Part
  pub own_step : OwnStep conf now h old part new
  pub outputs : put' ≡ put ++ part.outputs

-- the command of a construction that has begun is output
pub record PutsCommand (conf : List Line) (now k : ℕ) (subject : Subject) (old : Left) (put : List Output) (new : Left) (put' : List Output) : Type 0 where
  pub command : Command
  pub is_command : IsCommand conf old.world now k subject command
  pub world : new.world ≡ old.world
  pub adds : Adds (peer (Handler k) (Starts command.piped) (Some subject)) old.peers new.peers
  pub outputs : put' ≡ put ++ output.Start k command ∷ []

-- or its start fails
pub record FailsAtOnce (conf : List Line) (now k : ℕ) (subject : Subject) (old : Left) (put : List Output) (new : Left) (put' : List Output) : Type 0 where
  pub no_command : HasNoCommand conf old.world now k subject
  pub answer : Answer
  pub step : Step old.world now (Launched k ran.Failed) answer new.world
  pub peers : new.peers ≡ old.peers
  pub outputs : put' ≡ put

-- one of the two: the command for k is output, or there is none and its start fails at once
abbrev pub StartsNow : List Line → ℕ → ℕ → Subject → Left → List Output → Left → List Output → Type 0
StartsNow conf now k subject old put new put' = PutsCommand conf now k subject old put new put' ⊎ FailsAtOnce conf now k subject old put new put'

-- the session at a place can't move
abbrev pub RestsAt : Left → ℕ → Type 0
RestsAt left i = IfSome (slice_get left.peers i) (λ x. CannotMove left.world x.who x.channel)

-- one move of the session of this one, likewise
pub record MovesBy (conf : List Line) (now : ℕ) (who : SessionId) (old : Left) (put : List Output) (new : Left) (put' : List Output) : Type 0 where
  pub index : ℕ
  pub mover : Peer
  pub at : slice_get old.peers index ≡ Some mover
  pub who_is : mover.who ≡ who
  pub one : MovesOne conf now index old put new put'

-- one move was made; or none was, and nothing changed
abbrev pub TriesAt : List Line → ℕ → ℕ → Bool → Left → List Output → Left → List Output → Type 0
TriesAt conf now i moved old put new put' = MatchBool moved (MovesOne conf now i old put new put') ((new ≡ old) × (put' ≡ put) × RestsAt old i)

-- its session does not wait, and its stream is not shut
abbrev pub IsFreeAt : Left → ℕ → Type 0
IsFreeAt left i = IfSome (slice_get left.peers i) (λ x. (has_wait left.world x.who ≡ false) × (is_open x.channel ≡ true))

-- the construction of k is there, and its command was output
abbrev pub IsStartAt : List Peer → ℕ → ℕ → Bool → Type 0
IsStartAt peers i k piped = (subject : Subject) × (slice_get peers i ≡ Some (peer (Handler k) (Starts piped) (Some subject)))

-- the handler of k ran, and has ended with this event; its peer was taken from these
pub record HasEnded (k : ℕ) (event : Event) (made_for : Option Subject) (peers : List Peer) (left : Left) : Type 0 where
  pub how : How
  pub payload : Option (List ℕ)
  pub event_is : event ≡ Ended k how payload
  pub ran : is_running left.world k ≡ true
  pub made : is_some made_for ≡ true
  pub taken : left.peers ≡ without (Handler k) peers

-- a handler has ended with this event
pub record EndsOne (conf : List Line) (now k : ℕ) (event : Event) (made_for : Option Subject) (old : Left) (put : List Output) (new : Left)
    (put' : List Output) : Type 0 where
  pub part : Part
  pub ends : EndsBy conf now k event made_for old part new
  pub outputs : put' ≡ put ++ part.outputs

-- the answer is an error: that of a refusal, or the outcome of a wait that failed
abbrev pub is_refused : Answer → Bool
is_refused (answer.Refused e) = true
is_refused (answer.Done r) = false
is_refused (answer.Start k subject) = false
is_refused (answer.Waiting k) = false
is_refused (answer.Negate k) = false
