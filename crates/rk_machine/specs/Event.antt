-- What happens, whether its ask owns its names and its payload or borrows them.
use Rattle.std.specs.Prelude.{Option, Some, None}
use Rattle.rk_message.specs.Ask.{Ask}
use Rattle.rk_machine.specs.declared.event.EventOf.{EventOf}
use Rattle.rk_machine.specs.declared.event.EventOf.TheVariants.{Asked}

-- an event whose request has names and a payload as bytes
abbrev pub Event : Type 0
Event = EventOf Ask

-- its request, if it is one
abbrev pub ask_in : Event → Option Ask
ask_in (Asked session ask) = Some ask
ask_in _ = None
