-- The own step of a happening.
use Rattle.std.specs.Prelude.{◌≡◌, ◌⊎◌, ℕ, Bool, not, List, [], ◌∷◌, ◌++◌, Option, Some, None, is_none, slice_get, slice_set, if◌then◌else◌}
use Rattle.rk_names.specs.declared.numbers.SessionId.{SessionId}
use Rattle.rk_names.specs.declared.numbers.SessionId.TheVariants.{Client, Handler}
use Rattle.rk_names.specs.declared.errors.Errno.{Errno}
use Rattle.rk_names.specs.Rules.{payload_fault}
use Rattle.rk_conf.specs.declared.line.Line.{Line}
use Rattle.rk_macro.specs.declared.command.Command.{Command}
use Rattle.rk_macro.specs.declared.subject.Subject.{Subject}
use Rattle.rk_macro.specs.declared.subject.Op.TheVariants as op
use Rattle.rk_machine.specs.Event.{Event}
use Rattle.rk_machine.specs.declared.event.EventOf.TheVariants.{Opened, Launched, Ended, Gone}
use Rattle.rk_machine.specs.declared.event.Ran.TheVariants as ran
use Rattle.rk_machine.specs.declared.event.How.{How}
use Rattle.rk_machine.specs.declared.event.How.TheVariants.{Fault}
use Rattle.rk_machine.specs.declared.event.Answer.{Answer}
use Rattle.rk_machine.specs.declared.event.Answer.TheVariants.{Negate, Refused}
use Rattle.rk_machine.specs.Allowed.{done}
use Rattle.rk_machine.specs.World.{World}
use Rattle.rk_machine.specs.Steps.{Step}
use Rattle.rk_machine.specs.Views.{is_owed}
use Rattle.rk_served.specs.declared.happening.Happening.{Happening}
use Rattle.rk_served.specs.declared.happening.Happening.TheVariants as happening
use Rattle.rk_served.specs.declared.happening.StartResult.TheVariants.{Started, Failed}
use Rattle.rk_served.specs.declared.output.Output.{Output}
use Rattle.rk_served.specs.declared.output.Output.TheVariants as output
use Rattle.rk_served.specs.declared.peer.Channel.{Channel}
use Rattle.rk_served.specs.declared.peer.Channel.TheVariants.{Talks, Starts, Pipes}
use Rattle.rk_served.specs.declared.peer.Peer.{Peer}
use Rattle.rk_served.specs.Commands.{IsCommand, HasNoCommand}
use Rattle.rk_served.specs.Streams.{no_bytes, lengthened}
use Rattle.rk_served.specs.Left.{Left, peer, without, Part, step, no_step, one_step}

-- ---- where it is out of place

-- the client is there
abbrev pub has_client : World → ℕ → Bool
has_client w n = is_owed w (Gone (Client n))

-- the handler of k was not started yet
abbrev pub is_to_start : World → ℕ → Bool
is_to_start w k = is_owed w (Launched k ran.Plain)

-- the handler of k runs
abbrev pub is_running : World → ℕ → Bool
is_running w k = is_owed w (Ended k Fault None)

-- its session or construction is not at that point
abbrev pub is_misplaced : World → Happening → Bool
is_misplaced w (happening.Accept n) = has_client w n
is_misplaced w (happening.Bytes n bytes) = not (has_client w n)
is_misplaced w (happening.Gone n) = not (has_client w n)
is_misplaced w (happening.StartResult k r) = not (is_to_start w k)
is_misplaced w (happening.HandlerBytes k bytes) = not (is_running w k)
is_misplaced w (happening.HandlerReadFault k) = not (is_running w k)
is_misplaced w (happening.HandlerEnded k how) = not (is_running w k)
is_misplaced w (happening.WaitFault k) = not (is_running w k)

-- the client or the handler to whom it happens
abbrev pub whose : Happening → SessionId
whose (happening.Accept n) = Client n
whose (happening.Bytes n bytes) = Client n
whose (happening.Gone n) = Client n
whose (happening.StartResult k r) = Handler k
whose (happening.HandlerBytes k bytes) = Handler k
whose (happening.HandlerReadFault k) = Handler k
whose (happening.HandlerEnded k how) = Handler k
whose (happening.WaitFault k) = Handler k

-- ---- what it does to the peers

-- who it is about has this, and afterwards has that
pub record Replaces (s : SessionId) (made_for : Option Subject) (old new : List Peer) (channel channel' : Channel) : Type 0 where
  pub index : ℕ
  pub at : slice_get old index ≡ Some (peer s channel made_for)
  pub peers : new ≡ slice_set old index (peer s channel' made_for)

-- one is there, wherever it stands among the others
pub record Adds (x : Peer) (old new : List Peer) : Type 0 where
  pub before : List Peer
  pub after : List Peer
  pub others : old ≡ before ++ after
  pub peers : new ≡ before ++ x ∷ after

-- one step, and what it outputs
pub record StepsBy (now : ℕ) (event : Event) (answer : Answer) (outputs : List Output) (old : Left) (part : Part) (new : Left) : Type 0 where
  pub step : Step old.world now event answer new.world
  pub part_is : part ≡ one_step now event answer outputs

-- ---- bytes

-- bytes only lengthen a stream, or what a piped handler has output
abbrev pub channel_with : List ℕ → Channel → Channel
channel_with more (Talks stream) = Talks (lengthened more stream)
channel_with more (Pipes bytes) = Pipes (bytes ++ more)
channel_with more (Starts piped) = Starts piped

-- the peer of s takes these bytes on its channel, as above; the world stays, no step is made, and nothing is output
pub record Lengthens (s : SessionId) (more : List ℕ) (old : Left) (part : Part) (new : Left) : Type 0 where
  pub channel : Channel
  pub made_for : Option Subject
  pub replaces : Replaces s made_for old.peers new.peers channel (channel_with more channel)
  pub world : new.world ≡ old.world
  pub part_is : part ≡ no_step []

-- ---- clients

-- the client is there from now on, with an empty stream; or it is refused, and shut
abbrev pub Accepts : ℕ → ℕ → Left → Part → Left → Type 0
Accepts now n old part new =
    (StepsBy now (Opened (Client n)) done [] old part new × Adds (peer (Client n) (Talks no_bytes) None) old.peers new.peers)
    ⊎ ((e : Errno) × StepsBy now (Opened (Client n)) (Refused e) (output.Shut n ∷ []) old part new × (new.peers ≡ old.peers))

-- the client is gone, in one step that puts nothing out, and its peer with it
abbrev pub ClientGoes : ℕ → ℕ → Left → Part → Left → Type 0
ClientGoes now n old part new = StepsBy now (Gone (Client n)) done [] old part new × (new.peers ≡ without (Client n) old.peers)

-- ---- starts

-- a piped handler is handed the callout, if it says something
abbrev pub callout_to : ℕ → List ℕ → List Output
callout_to k [] = []
callout_to k (b ∷ bytes) = output.ToHandler k (b ∷ bytes) ∷ []

-- the handler runs as its command was output: with a stream, or piped
pub record Runs (now k : ℕ) (old : Left) (part : Part) (new : Left) : Type 0 where
  pub piped : Bool
  pub subject : Subject
  pub steps : StepsBy now (Launched k (if piped then ran.Piped else ran.Plain)) done (if piped then callout_to k subject.callout else []) old part new
  pub replaces : Replaces (Handler k) (Some subject) old.peers new.peers (Starts piped) (if piped then Pipes [] else Talks no_bytes)

-- the handler of k could not be started: one step says so and puts nothing out, and its peer is gone
abbrev pub FailsToRun : ℕ → ℕ → Left → Part → Left → Type 0
FailsToRun now k old part new = StepsBy now (Launched k ran.Failed) done [] old part new × (new.peers ≡ without (Handler k) old.peers)

-- ---- ends

-- what a piped handler has output, where it can be a payload
abbrev pub payload_in : Channel → Option (List ℕ)
payload_in (Pipes bytes) = if is_none (payload_fault bytes) then Some bytes else None
payload_in (Talks stream) = None
payload_in (Starts piped) = None

-- what the handler that follows is made for
abbrev pub negated : Subject → Subject
negated s = record s { op = op.Negate }

-- a handler has ended, and another follows: the command of its line is output
pub record Follows (conf : List Line) (now k : ℕ) (event : Event) (made_for : Option Subject) (old : Left) (part : Part) (new : Left) : Type 0 where
  pub subject : Subject
  pub made : made_for ≡ Some subject
  pub step : Step old.world now event (Negate k) new.world
  pub command : Command
  pub is_command : IsCommand conf new.world now k (negated subject) command
  pub part_is : part ≡ one_step now event (Negate k) (output.Start k command ∷ [])
  pub adds : Adds (peer (Handler k) (Starts command.piped) (Some (negated subject))) (without (Handler k) old.peers) new.peers

-- without a command its start fails in the next step
pub record FollowsNone (conf : List Line) (now k : ℕ) (event : Event) (made_for : Option Subject) (old : Left) (part : Part) (new : Left) : Type 0 where
  pub subject : Subject
  pub made : made_for ≡ Some subject
  pub mid : World
  pub first : Step old.world now event (Negate k) mid
  pub no_command : HasNoCommand conf mid now k (negated subject)
  pub second : Step mid now (Launched k ran.Failed) done new.world
  pub part_is : part ≡ record { steps = step now event (Negate k) ∷ step now (Launched k ran.Failed) done ∷ []; outputs = [] }
  pub peers : new.peers ≡ without (Handler k) old.peers

-- how the end of a handler is answered
pub data EndsBy (conf : List Line) (now k : ℕ) (event : Event) (made_for : Option Subject) (old : Left) (part : Part) (new : Left) : Type 0 where
  is_last : StepsBy now event done [] old part new → new.peers ≡ without (Handler k) old.peers → EndsBy conf now k event made_for old part new
  is_followed : Follows conf now k event made_for old part new → EndsBy conf now k event made_for old part new
  is_not_followed : FollowsNone conf now k event made_for old part new → EndsBy conf now k event made_for old part new

-- the handler has ended, with the payload of what it output
pub record Finishes (conf : List Line) (now k : ℕ) (how : How) (old : Left) (part : Part) (new : Left) : Type 0 where
  pub index : ℕ
  pub channel : Channel
  pub made_for : Option Subject
  pub at : slice_get old.peers index ≡ Some (peer (Handler k) channel made_for)
  pub ends : EndsBy conf now k (Ended k how (payload_in channel)) made_for old part new

-- the handler could not be read or waited for
pub record Breaks (conf : List Line) (now k : ℕ) (old : Left) (part : Part) (new : Left) : Type 0 where
  pub index : ℕ
  pub channel : Channel
  pub made_for : Option Subject
  pub at : slice_get old.peers index ≡ Some (peer (Handler k) channel made_for)
  pub ends : EndsBy conf now k (Ended k Fault None) made_for old part new

-- ---- by the happening

-- what a happening does by itself, each kind in its own way: from what was left, by this part of a run, to what is left then
abbrev pub OwnStep : List Line → ℕ → Happening → Left → Part → Left → Type 0
OwnStep conf now (happening.Accept n) old part new = Accepts now n old part new
OwnStep conf now (happening.Bytes n bytes) old part new = Lengthens (Client n) bytes old part new
OwnStep conf now (happening.Gone n) old part new = ClientGoes now n old part new
OwnStep conf now (happening.StartResult k Started) old part new = Runs now k old part new
OwnStep conf now (happening.StartResult k Failed) old part new = FailsToRun now k old part new
OwnStep conf now (happening.HandlerBytes k bytes) old part new = Lengthens (Handler k) bytes old part new
OwnStep conf now (happening.HandlerReadFault k) old part new = Breaks conf now k old part new
OwnStep conf now (happening.HandlerEnded k how) old part new = Finishes conf now k how old part new
OwnStep conf now (happening.WaitFault k) old part new = Breaks conf now k old part new
