-- A part of a session: one message, all that are held, and what is written of one.
use Rattle.std.specs.Prelude.{◌≡◌, ◌≢◌, ◌≤◌, ◌⊎◌, ℕ, Bool, true, false, List, [], ◌∷◌, ◌++◌, take, Option, Some, None, Result, Ok, Err}
use Rattle.rk_names.specs.declared.numbers.SessionId.{SessionId}
use Rattle.rk_frame.specs.Streams.{TakesBody, IsPartial}
use Rattle.rk_frame.specs.Unread.{Unread}
use Rattle.rk_message.specs.declared.reply.Reply.{Reply}
use Rattle.rk_devices.specs.declared.device.DeviceFault.{DeviceFault}
use Rattle.rk_devices.specs.Counts.{Rose, raised}
use Rattle.rk_devices.specs.Shown.{and_then}
use Rattle.rk_record.specs.declared.hall_no.HallNo.{HallNo}
use Rattle.rk_record.specs.Turns.{Noted}
use Rattle.rk_hall.specs.Seats.{SeatShown, TokenShown}
use Rattle.rk_talk.specs.Replies.{reply_bytes}
use Rattle.rk_talk.specs.Said.{Settles}
use Rattle.rk_talk.specs.Stays.{Stays}
use Rattle.rk_talk.specs.declared.saying.Saying.{Saying}
use Rattle.rk_talk.specs.declared.saying.Saying.TheVariants as saying
use Rattle.rk_session.specs.declared.serving.Served.{Served}
use Rattle.rk_session.specs.declared.serving.Served.TheVariants.{Ended, ReadFault, WriteFault, Malformed, Behind}
use Rattle.rk_session.specs.Places.{Says, Standing}
use Rattle.rk_session.specs.Talk.{Begun, Ends, Talking, Tells, told_in}
use Rattle.rk_session.specs.Wires.{Counts, Happened, Heard, WireShown}

-- whatever talk led here, with this held and the client there, goes on so, and then that is held and the client stands there
abbrev pub GoesOn : SessionId → WireShown → List ℕ → Standing → WireShown → List ℕ → Standing → Type 0
GoesOn session old held from new held' to = (begun : Begun) (story : List Happened) → old.story ≡ Some story → Talking session begun story held from
    → (story' : List Happened) × (new.story ≡ Some story') × Talking session begun story' held' to

-- whatever talk led here, with this held and the client there, the session has ended so, and the client stands there
abbrev pub EndsHere : SessionId → Served → WireShown → List ℕ → Standing → WireShown → Standing → Type 0
EndsHere session served old held from new last = (begun : Begun) (story : List Happened) → old.story ≡ Some story
    → Talking session begun story held from → (story' : List Happened) × (new.story ≡ Some story') × Ends session served begun story' last

-- an end at a message, and not at a read; a reply that could not be written has cut the wire
abbrev pub IsEndInTurns : Served → WireShown → Type 0
IsEndInTurns WriteFault w = w.cut ≡ true
IsEndInTurns Malformed w = Unit {0}
IsEndInTurns Behind w = Unit {0}
IsEndInTurns _ w = ⊥

-- all messages that were held got their replies, or the session has ended
abbrev pub TakesAll : SessionId → Result Unit Served → WireShown → Unread → Standing → WireShown → Unread → Standing → Type 0
TakesAll session (Ok u) old frames from new frames' to =
    GoesOn session old frames.bytes from new frames'.bytes to × IsPartial frames'.bytes × (4096 ≤ frames'.room)
TakesAll session (Err served) old frames from new frames' to = IsEndInTurns served new × EndsHere session served old frames.bytes from new to

-- ---- sendings

-- on this wire nothing was heard, noted or said, but what was kept may have been sent, or some of it be lost
pub record Pushes (old new : WireShown) : Type 0 where
  pub story : new.story ≡ old.story
  pub reads : new.reads ≡ old.reads
  pub counts : Counts old new

-- what was kept was sent, and then bytes came; or the end of the input was told, or the read failed; or the sending failed, and there was no read
abbrev pub Hears : Result ℕ Served → List ℕ → WireShown → WireShown → Type 0
Hears (Ok n) buf old new = (n ≢ 0) × (old.cut ≡ false)
    × (new ≡ record old { kept = false; reads = raised old.reads; story = and_then old.story (Heard (take n buf) ∷ []) })
Hears (Err Ended) buf old new = (old.cut ≡ false)
    × (new ≡ record old { kept = false; reads = raised old.reads; story = and_then old.story (Heard [] ∷ []) })
Hears (Err ReadFault) buf old new = (old.cut ≡ false) × Rose old.count new.count
    × (new ≡ record old { count = new.count; kept = false; reads = raised old.reads })
Hears (Err WriteFault) buf old new = Rose old.count new.count × (new ≡ record old { count = new.count; kept = false; cut = true })
Hears (Err _) buf old new = ⊥

-- what was kept was sent at the end of a session, or that failed, and then it is a fault of writing
abbrev pub Parts : Served → Served → WireShown → WireShown → Type 0
Parts served told old new = ((told ≡ served) × (old.cut ≡ false) × (new ≡ record old { kept = false }))
    ⊎ ((told ≡ WriteFault) × Rose old.count new.count × (new ≡ record old { count = new.count; kept = false; cut = true }))

-- ---- what is written

-- a call gave this receipt, and this launch: what was started was brought to its end, where anything was, and then the receipt settled
abbrev pub Finishes : HallNo → SessionId → Noted → Option TokenShown → SeatShown → SeatShown → Saying → Type 0
Finishes hall session receipt launch old new s = (mid : SeatShown) × Stays old mid × (launch ≡ None → mid ≡ old) × Settles hall session receipt mid new s

-- a write that failed ends the session
abbrev pub ended : Result Unit DeviceFault → Result Unit Served
ended (Ok u) = Ok u
ended (Err e) = Err WriteFault

-- after what had happened it was noted and written; or written in part, and the wire is cut; or there was nothing to be said. The last two end the session
abbrev pub Speaks : Saying → Result Unit Served → Option (List Happened) → WireShown → Type 0
Speaks x (Ok u) story new = (note : Option Noted) × (r : Reply) × Tells x note r × (new.story ≡ and_then story (told_in note (reply_bytes r)))
Speaks x (Err WriteFault) story new = (note : Option Noted) × (r : Reply) × (first others : List ℕ) × Tells x note r
    × (reply_bytes r ≡ first ++ others) × (new.cut ≡ true) × (new.story ≡ and_then story (told_in note first))
Speaks x (Err Behind) story new = (x ≡ saying.Behind) × (new.story ≡ story)
Speaks x (Err _) story new = ⊥

-- one of these sayings is what is to be said, and it was said; or the session has ended at it
abbrev pub IsSaid : (Saying → Type 0) → Result Unit Served → WireShown → WireShown → Type 0
IsSaid fits result old new = (s : Saying) × fits s × Speaks s result old.story new

-- one message with its reply, or the end of the session at it
abbrev pub TurnEnds : SessionId → Standing → List ℕ → Standing → Result Unit Served → WireShown → WireShown → Type 0
TurnEnds session from body to result old new = IsSaid (λ s. Says session from body s to) result old new

-- the next message, if there was one, with its reply: it was at the front of the bytes that were held; or there was none, or the session has ended
abbrev pub TakesOne : SessionId → Result Bool Served → WireShown → Unread → Standing → WireShown → Unread → Standing → Type 0
TakesOne session (Ok true) old frames from new frames' to =
    (body : List ℕ) × TakesBody body frames.bytes frames'.bytes × TurnEnds session from body to (Ok tt) old new
TakesOne session (Ok false) old frames from new frames' to =
    IsPartial frames'.bytes × (frames'.bytes ≡ frames.bytes) × (4096 ≤ frames'.room) × (new ≡ old) × (to ≡ from)
TakesOne session (Err served) old frames from new frames' to = IsEndInTurns served new × EndsHere session served old frames.bytes from new to
