-- What the channel of a peer is, and what it has next.
use Rattle.std.specs.Prelude.{◌≡◌, ℕ, Bool, true, false, not, List, [], Option, Some, None}
use Rattle.rk_names.specs.declared.numbers.SessionId.{SessionId}
use Rattle.rk_macro.specs.declared.subject.Subject.{Subject}
use Rattle.rk_machine.specs.World.{World}
use Rattle.rk_served.specs.declared.peer.Channel.{Channel}
use Rattle.rk_served.specs.declared.peer.Channel.TheVariants.{Talks, Starts, Pipes}
use Rattle.rk_served.specs.declared.stream.Message.{Message}
use Rattle.rk_served.specs.declared.stream.Message.TheVariants.{More}
use Rattle.rk_served.specs.Unused.{Unused}
use Rattle.rk_served.specs.declared.output.Output.{Output}
use Rattle.rk_frame.specs.Streams.{HasFault, IsPartial}
use Rattle.rk_served.specs.Streams.{closed}
use Rattle.rk_served.specs.OwnStep.{callout_to}
use Rattle.rk_served.specs.Message.{IsNext}

-- a stream, which is not shut
abbrev pub is_open : Channel → Bool
is_open (Talks stream) = not stream.is_shut
is_open (Starts piped) = false
is_open (Pipes bytes) = false

-- a stream, shut or not
abbrev pub is_stream : Channel → Bool
is_stream (Talks stream) = true
is_stream (Starts piped) = false
is_stream (Pipes bytes) = false

-- a stream that has no message and no fault
abbrev pub IsUsedUp : Channel → Type 0
IsUsedUp (Talks stream) = IsPartial stream.bytes
IsUsedUp (Starts piped) = Unit {0}
IsUsedUp (Pipes bytes) = Unit {0}

-- the next message of a stream, made by this session; there is none elsewhere
abbrev pub IsNextAt : Message → SessionId → ℕ → World → Channel → World → Channel → Type 0
IsNextAt m who now world (Talks stream) world' new = (rest : Unused) × (new ≡ Talks rest) × IsNext m who now world stream world' rest
IsNextAt m who now world (Starts piped) world' new = (m ≡ More) × (new ≡ Starts piped) × (world' ≡ world)
IsNextAt m who now world (Pipes bytes) world' new = (m ≡ More) × (new ≡ Pipes bytes) × (world' ≡ world)

-- a stream moves no more
abbrev pub shut_channel : Channel → Channel
shut_channel (Talks stream) = Talks (closed stream)
shut_channel (Starts piped) = Starts piped
shut_channel (Pipes bytes) = Pipes bytes

-- a piped handler is to be started
abbrev pub is_piped : Channel → Bool
is_piped (Starts piped) = piped
is_piped (Talks stream) = false
is_piped (Pipes bytes) = false

-- what it is handed as it starts
abbrev pub callout_of : ℕ → Option Subject → List Output
callout_of k None = []
callout_of k (Some subject) = callout_to k subject.callout

-- a stream that has a fault next
abbrev pub HasFaultAt : Channel → Type 0
HasFaultAt (Talks stream) = HasFault stream.bytes
HasFaultAt (Starts piped) = ⊥
HasFaultAt (Pipes bytes) = ⊥
