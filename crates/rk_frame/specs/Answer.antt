-- What `next` answered, by the bytes of the body that it lent, and what it left.
use Rattle.rk_frame.specs.declared.answer.Next.{Next}
use Rattle.rk_frame.specs.declared.answer.Next.TheVariants as next
use Rattle.rk_frame.specs.Calls.{Call, Gave, Waited, Failed, Makes}
use Rattle.rk_frame.specs.Rest.{LeavesRoom}
use Rattle.rk_frame.specs.Unread.{Unread}

-- the call of `next` that gave this answer
abbrev pub call_of : Next → Call
call_of (next.Whole body) = Gave body.now
call_of next.More = Waited
call_of (next.Fault f) = Failed f

-- with this answer `next` made the new bytes of the old ones, and left room
abbrev pub Leaves : Next → Unread → Unread → Type 0
Leaves answer old new = Makes (call_of answer) old.bytes new.bytes × LeavesRoom (call_of answer) old new
