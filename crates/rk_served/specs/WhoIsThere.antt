-- The peers are those of who is there.
use Rattle.std.specs.Prelude.{◌≡◌, ℕ, Bool, true, false, not, ◌&&◌, List, [], ◌∷◌, Option, Some, None, is_some, slice_get, if◌then◌else◌}
use Rattle.std.specs.FinSet as set
use Rattle.rk_names.specs.declared.numbers.SessionId.{SessionId}
use Rattle.rk_names.specs.declared.numbers.SessionId.TheVariants.{Client, Handler}
use Rattle.rk_auth.specs.declared.construction.Stage.{Stage}
use Rattle.rk_auth.specs.declared.construction.Stage.TheVariants.{Starting, Plain, Piped, Negating}
use Rattle.rk_auth.specs.Sessions.{stage_of}
use Rattle.rk_machine.specs.Laws.{same_session}
use Rattle.rk_served.specs.declared.peer.Channel.{Channel}
use Rattle.rk_served.specs.declared.peer.Channel.TheVariants.{Talks, Starts, Pipes}
use Rattle.rk_served.specs.declared.peer.Peer.{Peer}
use Rattle.rk_served.specs.Left.{Left}
use Rattle.rk_served.specs.OwnStep.{has_client}

-- what a session or construction has
abbrev pub peer_of : List Peer → SessionId → Option Peer
peer_of [] s = None
peer_of (x ∷ xs) s = if same_session x.who s then Some x else peer_of xs s

-- one of the peers is that of this session or construction
abbrev pub has_peer : List Peer → SessionId → Bool
has_peer xs s = is_some (peer_of xs s)

-- nobody has two
abbrev pub are_apart : List Peer → Bool
are_apart [] = true
are_apart (x ∷ xs) = not (has_peer xs x.who) && are_apart xs

-- one of the peers is its own, and is this
pub record Sits (s : SessionId) (x : Peer) (peers : List Peer) : Type 0 where
  pub index : ℕ
  pub at : slice_get peers index ≡ Some x
  pub who_is : x.who ≡ s
  pub peer_is : peer_of peers s ≡ Some x

-- what the handler of a construction in this stage has: a command that was output, which is piped only if it is the first, a stream, or an output
abbrev pub has_channel : Stage → Channel → Bool
has_channel Starting (Starts piped) = true
has_channel Negating (Starts piped) = not piped
has_channel (Plain s) (Talks stream) = true
has_channel Piped (Pipes bytes) = true
has_channel _ _ = false

-- the peer of a construction in this stage has what its handler has, and what it was made for
abbrev pub fits_stage : Option Stage → Option Peer → Bool
fits_stage None None = true
fits_stage None (Some x) = false
fits_stage (Some st) None = false
fits_stage (Some st) (Some x) = has_channel st x.channel && is_some x.subject

-- each client and each construction has one peer, that of the stage that it is in; what was never drawn is no construction
pub record HasItsPeers (left : Left) : Type 0 where
  pub clients : (n : ℕ) → has_peer left.peers (Client n) ≡ has_client left.world n
  pub constructions : (k : ℕ) → fits_stage (stage_of left.world.sessions k) (peer_of left.peers (Handler k)) ≡ true
  pub apart : are_apart left.peers ≡ true
  pub idle : (k : ℕ) → set.contains left.world.serials.used k ≡ false → stage_of left.world.sessions k ≡ None
