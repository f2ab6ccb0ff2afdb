-- What an answer of `next` leaves for the pieces to come.
use Rattle.std.specs.Prelude.{◌≤◌, length}
use Rattle.rk_frame.specs.Unread.{Unread}
use Rattle.rk_frame.specs.Calls.{Call, Fed, Gave, Waited, Failed}

-- no answer takes room away; where more is asked for, a piece of 4,096 bytes has room, and less than a whole frame is held
abbrev pub LeavesRoom : Call → Unread → Unread → Type 0
LeavesRoom Waited old new = (old.room ≤ new.room) × (4096 ≤ new.room) × (length new.bytes ≤ 65539)
LeavesRoom (Fed _) old new = old.room ≤ new.room
LeavesRoom (Gave _) old new = old.room ≤ new.room
LeavesRoom (Failed _) old new = old.room ≤ new.room
