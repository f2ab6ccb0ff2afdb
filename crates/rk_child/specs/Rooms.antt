-- The room for the output of a handler.
use Rattle.std.specs.Prelude.{◌≡◌, ◌≤◌, Bool, true, false, [], Some}
use Rattle.rk_frame.specs.Unread.{Unread}
use Rattle.rk_machine.specs.declared.event.Ran.{Ran}
use Rattle.rk_machine.specs.declared.event.Ran.TheVariants as ran
use Rattle.rk_child.specs.declared.room.Room.{Room}
use Rattle.rk_child.specs.declared.room.Room.TheVariants.{Plain, Piped}

-- no bytes are held, and a piece finds its room
abbrev pub IsEmpty : Unread → Type 0
IsEmpty f = (f.bytes ≡ []) × (4096 ≤ f.room)

-- empty room for a piped handler, or for a plain one
abbrev pub IsNewRoom : Bool → Room → Type 0
IsNewRoom true (Piped output) = output ≡ Some []
IsNewRoom false (Plain frames) = IsEmpty frames
IsNewRoom _ _ = ⊥

-- what the handler is that has this room
abbrev pub ran_in : Room → Ran
ran_in (Plain frames) = ran.Plain
ran_in (Piped output) = ran.Piped

-- it is empty
abbrev pub IsEmptyRoom : Room → Type 0
IsEmptyRoom (Plain frames) = IsEmpty frames
IsEmptyRoom (Piped output) = output ≡ Some []
