-- What is around a call, and the call that its words say there.
use Rattle.std.specs.Prelude.{ℕ, Bool, true, false, is_none, ◌&&◌, List, Option, Some, None, option_map, string_bytes, if◌then◌else◌}
use Rattle.rk_message.specs.declared.shape.Op.{Op}
use Rattle.rk_message.specs.declared.shape.Op.TheVariants as op
use Rattle.rk_ctl.specs.declared.around.Around.{Around}
use Rattle.rk_ctl.specs.Said.{CallSaid, call_said}

-- the socket that the environment names
abbrev pub socket_around : Around → Option (List ℕ)
socket_around around = option_map string_bytes around.socket

-- what only a handler asks
abbrev pub is_handlers : Op → Bool
is_handlers op.Assume = true
is_handlers op.Instantiate = true
is_handlers op.Negate = true
is_handlers op.Reject = true
is_handlers op.Default = true
is_handlers op.Callout = true
is_handlers _ = false

-- the socket for an op that names none: that of the environment, but for what only a handler asks between two pipes, since its daemon is at their other ends
abbrev pub socket_for : Around → Op → Option (List ℕ)
socket_for around o = if around.piped && is_handlers o then None else socket_around around

-- the socket that an option names, or else another
abbrev pub or_else : Option (List ℕ) → Option (List ℕ) → Option (List ℕ)
or_else (Some path) other = Some path
or_else None other = other

-- a call with this socket, where it names none
abbrev pub led_to : Option (List ℕ) → CallSaid → CallSaid
led_to socket call = record call { options = record call.options { socket = or_else call.options.socket socket } }

-- the call that the words say, with the socket for its op where they name none
abbrev pub call_in : Around → List (List ℕ) → Option CallSaid
call_in around words = option_map (λ (call : CallSaid). led_to (socket_for around call.op) call) (call_said words)

-- a call that names no daemon, and its ask would be written to a terminal
abbrev pub is_lost : Around → CallSaid → Bool
is_lost around call = around.terminal && is_none call.options.socket
