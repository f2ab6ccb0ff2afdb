-- The moves of sessions.
use Rattle.std.specs.Prelude.{◌≡◌, ◌⊎◌, ℕ, Bool, true, false, List, [], ◌∷◌, ◌++◌, Option, Some, slice_get, slice_set}
use Rattle.std.specs.List.{All}
use Rattle.rk_names.specs.declared.numbers.SessionId.{SessionId}
use Rattle.rk_names.specs.declared.numbers.SessionId.TheVariants.{Client, Handler}
use Rattle.rk_names.specs.declared.errors.Errno.{Errno}
use Rattle.rk_message.specs.Ask.{Ask}
use Rattle.rk_message.specs.declared.reply.Reply.TheVariants as reply
use Rattle.rk_conf.specs.declared.line.Line.{Line}
use Rattle.rk_macro.specs.declared.command.Command.{Command}
use Rattle.rk_macro.specs.declared.subject.Subject.{Subject}
use Rattle.rk_machine.specs.declared.event.EventOf.TheVariants.{Asked, Launched, Collect, Gone}
use Rattle.rk_machine.specs.declared.event.Ran.TheVariants as ran
use Rattle.rk_machine.specs.declared.event.Answer.{Answer}
use Rattle.rk_machine.specs.declared.event.Answer.TheVariants.{Done, Start, Waiting, Refused, Negate}
use Rattle.rk_machine.specs.World.{World}
use Rattle.rk_machine.specs.Steps.{Step}
use Rattle.rk_machine.specs.Views.{is_ready, has_wait}
use Rattle.rk_served.specs.declared.output.Output.TheVariants as output
use Rattle.rk_served.specs.declared.peer.Channel.{Channel}
use Rattle.rk_served.specs.declared.peer.Channel.TheVariants.{Talks, Starts, Pipes}
use Rattle.rk_served.specs.declared.peer.Peer.{Peer}
use Rattle.rk_served.specs.Unused.{Unused}
use Rattle.rk_frame.specs.Streams.{IsPartial, HasFault}
use Rattle.rk_message.specs.Bodies.{Spells, IsRefusedAs}
use Rattle.rk_served.specs.Streams.{closed, Takes}
use Rattle.rk_served.specs.Left.{Left, peer, without, Part, step, no_step, one_step, reply_to, replies_to}
use Rattle.rk_served.specs.Commands.{IsCommand, HasNoCommand}

-- ---- what one ask does

-- the answer is that the construction of a key begins; that one goes on, by Negate, is no start
abbrev pub is_start : Answer → Bool
is_start (Start k subject) = true
is_start (Done r) = false
is_start (Waiting k) = false
is_start (Negate k) = false
is_start (Refused e) = false

-- an ask that starts nothing: what its answer replies is output, and an answer that ends no ask replies nothing
pub record PutsReply (now : ℕ) (old : Left) (who : SessionId) (ask : Ask) (part : Part) (new : Left) : Type 0 where
  pub answer : Answer
  pub step : Step old.world now (Asked who ask) answer new.world
  pub no_start : is_start answer ≡ false
  pub part_is : part ≡ one_step now (Asked who ask) answer (replies_to who answer)
  pub peers : new.peers ≡ old.peers

-- an ask that starts a construction puts its command out; the construction is there, wherever it stands among the others
pub record StartsOne (conf : List Line) (now : ℕ) (old : Left) (who : SessionId) (ask : Ask) (part : Part) (new : Left) : Type 0 where
  pub key : ℕ
  pub subject : Subject
  pub command : Command
  pub step : Step old.world now (Asked who ask) (Start key subject) new.world
  pub is_command : IsCommand conf new.world now key subject command
  pub part_is : part ≡ one_step now (Asked who ask) (Start key subject) (output.Start key command ∷ [])
  pub before : List Peer
  pub after : List Peer
  pub others : old.peers ≡ before ++ after
  pub peers : new.peers ≡ before ++ peer (Handler key) (Starts command.piped) (Some subject) ∷ after

-- without a command the start fails in the next step
pub record FailsToStart (conf : List Line) (now : ℕ) (old : Left) (who : SessionId) (ask : Ask) (part : Part) (new : Left) : Type 0 where
  pub key : ℕ
  pub subject : Subject
  pub mid : World
  pub answer : Answer
  pub first : Step old.world now (Asked who ask) (Start key subject) mid
  pub no_command : HasNoCommand conf mid now key subject
  pub second : Step mid now (Launched key ran.Failed) answer new.world
  pub part_is : part ≡ record {
    steps = step now (Asked who ask) (Start key subject) ∷ step now (Launched key ran.Failed) answer ∷ [];
    outputs = [];
  }
  pub peers : new.peers ≡ old.peers

-- what one ask does: it starts nothing, or puts the command of a construction out, or starts one that has no command and fails at once
pub data Answered (conf : List Line) (now : ℕ) (old : Left) (who : SessionId) (ask : Ask) (part : Part) (new : Left) : Type 0 where
  puts_reply : PutsReply now old who ask part new → Answered conf now old who ask part new
  starts_one : StartsOne conf now old who ask part new → Answered conf now old who ask part new
  fails_to_start : FailsToStart conf now old who ask part new → Answered conf now old who ask part new

-- ---- the moves of the session at a place

-- the session at the place has a stream, which is not shut, and does not wait
pub record IsFree (old : Left) (index : ℕ) (who : SessionId) (stream : Unused) (made_for : Option Subject) : Type 0 where
  pub at : slice_get old.peers index ≡ Some (peer who (Talks stream) made_for)
  pub no_wait : has_wait old.world who ≡ false
  pub not_shut : stream.is_shut ≡ false

-- it collects its outcome, which is output as a reply
pub record CollectsAt (now : ℕ) (old : Left) (index : ℕ) (part : Part) (new : Left) : Type 0 where
  pub who : SessionId
  pub stream : Unused
  pub made_for : Option Subject
  pub at : slice_get old.peers index ≡ Some (peer who (Talks stream) made_for)
  pub ready : is_ready old.world who ≡ true
  pub answer : Answer
  pub step : Step old.world now (Collect who) answer new.world
  pub part_is : part ≡ one_step now (Collect who) answer (replies_to who answer)
  pub peers : new.peers ≡ old.peers

-- an invalid body is answered by its error, and makes no step
pub record RefusesAt (now : ℕ) (old : Left) (index : ℕ) (part : Part) (new : Left) : Type 0 where
  pub who : SessionId
  pub stream : Unused
  pub rest : Unused
  pub made_for : Option Subject
  pub free : IsFree old index who stream made_for
  pub body : List ℕ
  pub takes : Takes body stream rest
  pub error : Errno
  pub refused : IsRefusedAs error body
  pub world : new.world ≡ old.world
  pub peers : new.peers ≡ slice_set old.peers index (peer who (Talks rest) made_for)
  pub part_is : part ≡ no_step (reply_to who (reply.Refused error) ∷ [])

-- any other body is one ask
pub record AsksAt (conf : List Line) (now : ℕ) (old : Left) (index : ℕ) (part : Part) (new : Left) : Type 0 where
  pub who : SessionId
  pub stream : Unused
  pub rest : Unused
  pub made_for : Option Subject
  pub free : IsFree old index who stream made_for
  pub body : List ℕ
  pub takes : Takes body stream rest
  pub ask : Ask
  pub spells : Spells ask body
  pub answered : Answered conf now (record { world = old.world; peers = slice_set old.peers index (peer who (Talks rest) made_for) }) who ask part new

-- a client whose stream has a fault is gone
pub record ShutsClient (now : ℕ) (old : Left) (index : ℕ) (part : Part) (new : Left) : Type 0 where
  pub client : ℕ
  pub stream : Unused
  pub made_for : Option Subject
  pub free : IsFree old index (Client client) stream made_for
  pub fault : HasFault stream.bytes
  pub answer : Answer
  pub step : Step old.world now (Gone (Client client)) answer new.world
  pub peers : new.peers ≡ without (Client client) old.peers
  pub part_is : part ≡ one_step now (Gone (Client client)) answer (output.Shut client ∷ [])

-- a handler whose stream has a fault moves no more
pub record ShutsHandler (now : ℕ) (old : Left) (index : ℕ) (part : Part) (new : Left) : Type 0 where
  pub key : ℕ
  pub stream : Unused
  pub made_for : Option Subject
  pub free : IsFree old index (Handler key) stream made_for
  pub fault : HasFault stream.bytes
  pub world : new.world ≡ old.world
  pub peers : new.peers ≡ slice_set old.peers index (peer (Handler key) (Talks (closed stream)) made_for)
  pub part_is : part ≡ no_step (output.ShutHandler key ∷ [])

-- one move by the session at a place
pub data Move (conf : List Line) (now : ℕ) (old : Left) (index : ℕ) (part : Part) (new : Left) : Type 0 where
  collects : CollectsAt now old index part new → Move conf now old index part new
  refuses : RefusesAt now old index part new → Move conf now old index part new
  asks : AsksAt conf now old index part new → Move conf now old index part new
  shuts_client : ShutsClient now old index part new → Move conf now old index part new
  shuts_handler : ShutsHandler now old index part new → Move conf now old index part new

-- ---- until none can

-- moves, one after another, by any sessions
abbrev pub Moves : List Line → ℕ → Left → List Part → Left → Type 0
Moves conf now old [] new = new ≡ old
Moves conf now old (part ∷ parts) new = (index : ℕ) × (mid : Left) × Move conf now old index part mid × Moves conf now mid parts new

-- it has nothing to collect, and it waits, or is shut, or has no message and no fault
abbrev pub IsIdle : World → SessionId → Unused → Type 0
IsIdle w who u = (is_ready w who ≡ false) × ((has_wait w who ≡ true) ⊎ (u.is_shut ≡ true) ⊎ IsPartial u.bytes)

-- the session of this peer, if it has one, can't move
abbrev pub CannotMove : World → SessionId → Channel → Type 0
CannotMove w who (Talks stream) = IsIdle w who stream
CannotMove w who (Starts piped) = Unit {0}
CannotMove w who (Pipes bytes) = Unit {0}

-- no session can move
abbrev pub IsAtRest : Left → Type 0
IsAtRest left = All (λ x. CannotMove left.world x.who x.channel) left.peers
