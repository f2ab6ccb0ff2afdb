-- What a served list leaves.
use Rattle.std.specs.Prelude.{ℕ, not, List, [], ◌∷◌, Option, Some, None, filter}
use Rattle.rk_names.specs.declared.numbers.SessionId.{SessionId}
use Rattle.rk_names.specs.declared.numbers.SessionId.TheVariants.{Client, Handler}
use Rattle.rk_macro.specs.declared.subject.Subject.{Subject}
use Rattle.rk_message.specs.declared.reply.Reply.{Reply}
use Rattle.rk_message.specs.declared.reply.Reply.TheVariants as reply
use Rattle.rk_message.specs.Wire.{spelling}
use Rattle.rk_message.specs.Replies.{reply_message}
use Rattle.rk_frame.specs.Framing.{frame}
use Rattle.rk_machine.specs.Event.{Event}
use Rattle.rk_machine.specs.declared.event.Answer.{Answer}
use Rattle.rk_machine.specs.declared.event.Answer.TheVariants.{Done, Start, Waiting, Refused, Negate}
use Rattle.rk_machine.specs.World.{World, empty_world}
use Rattle.rk_machine.specs.Steps.{Beginning, Past}
use Rattle.rk_machine.specs.Laws.{same_session}
use Rattle.rk_served.specs.declared.output.Output.{Output}
use Rattle.rk_served.specs.declared.output.Output.TheVariants as output
use Rattle.rk_served.specs.declared.peer.Channel.{Channel}
use Rattle.rk_served.specs.declared.peer.Peer.{Peer}

-- the world; each client and each construction with what it has; and what a construction was made for. It has the unused bytes of its stream,
-- its start, or what it has output
pub record Left : Type 0 where
  pub world : World
  pub peers : List Peer

-- before anything happens: the empty world that begins with this, and no peers
abbrev pub nothing : Beginning → Left
nothing from = record { world = empty_world from.negative from.first from.stride; peers = [] }

-- ---- peers

-- a peer: who it is, its channel, and what it was made for, if anything
abbrev pub peer : SessionId → Channel → Option Subject → Peer
peer who channel made_for = record { who = who; channel = channel; subject = made_for }

-- the peers but those of s, in the same order
abbrev pub without : SessionId → List Peer → List Peer
without s peers = filter (λ x. not (same_session x.who s)) peers

-- ---- parts of a run

-- some steps, and what they output
pub record Part : Type 0 where
  pub steps : List Past
  pub outputs : List Output

-- one step: when it was, what happened, and what was answered
abbrev pub step : ℕ → Event → Answer → Past
step now e a = record { now = now; event = e; answer = a }

-- a part that has no step, and these outputs
abbrev pub no_step : List Output → Part
no_step outputs = record { steps = []; outputs = outputs }

-- a part of this one step, and these outputs
abbrev pub one_step : ℕ → Event → Answer → List Output → Part
one_step now e a outputs = record { steps = step now e a ∷ []; outputs = outputs }

-- ---- replies

-- a reply to a session, as a frame
abbrev pub reply_to : SessionId → Reply → Output
reply_to (Client s) r = output.ToClient s (frame (spelling (reply_message r)))
reply_to (Handler k) r = output.ToHandler k (frame (spelling (reply_message r)))

-- the reply that returns an answer, if there is one
abbrev pub reply_of : Answer → Option Reply
reply_of (Done r) = Some r
reply_of (Refused e) = Some (reply.Refused e)
reply_of (Start k subject) = None
reply_of (Waiting k) = None
reply_of (Negate k) = None

-- the reply to a session, as the one output; no output if there is no reply
abbrev pub told_to : SessionId → Option Reply → List Output
told_to who None = []
told_to who (Some r) = reply_to who r ∷ []

-- what is output for an answer
abbrev pub replies_to : SessionId → Answer → List Output
replies_to who a = told_to who (reply_of a)
