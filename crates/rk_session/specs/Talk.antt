-- What a session does, message by message.
use Rattle.std.specs.Prelude.{◌≡◌, ◌≢◌, ◌⊎◌, ℕ, false, List, [], ◌∷◌, ◌++◌, Option, Some, None}
use Rattle.rk_names.specs.declared.errors.Errno.TheVariants.{Enomem}
use Rattle.rk_names.specs.declared.numbers.SessionId.{SessionId}
use Rattle.rk_frame.specs.Framing.{IsBody, frame}
use Rattle.rk_frame.specs.Streams.{IsPartial, HasFault}
use Rattle.rk_message.specs.declared.reply.Reply.{Reply}
use Rattle.rk_message.specs.declared.reply.Reply.TheVariants as reply
use Rattle.rk_devices.specs.Counts.{Rose}
use Rattle.rk_record.specs.declared.hall_no.HallNo.TheVariants.{Zero}
use Rattle.rk_record.specs.Turns.{Noted}
use Rattle.rk_hall.specs.Seats.{SeatShown}
use Rattle.rk_talk.specs.Replies.{TakesMemory, reply_bytes, reply_of}
use Rattle.rk_talk.specs.declared.saying.Saying.{Saying}
use Rattle.rk_talk.specs.declared.saying.Saying.TheVariants as saying
use Rattle.rk_session.specs.declared.serving.Served.{Served}
use Rattle.rk_session.specs.declared.serving.Served.TheVariants.{Ended, NotOpened, ReadFault, WriteFault, Malformed, TurnsUsed, Behind}
use Rattle.rk_session.specs.Opening.{HasGone, IsOpened, IsShutOut}
use Rattle.rk_session.specs.Places.{Says, Standing, at_first, standing_of}
use Rattle.rk_session.specs.Wires.{Happened, Heard, HasNoted, Said, WireShown}

-- ---- one message

-- a message that was taken, the receipt that was noted for it, if one was, and its reply
pub record Turn : Type 0 where
  pub body : List ℕ
  pub note : Option Noted
  pub reply : Reply

-- the note and the reply of what is to be said; ENOMEM and no note, if there was no memory for a reply that takes it
abbrev pub Tells : Saying → Option Noted → Reply → Type 0
Tells (saying.Noted n) (Some m) r = (m ≡ n) × (reply_of n.answer ≡ Some r)
Tells (saying.Noted n) None r = (r ≡ reply.Refused Enomem) × TakesMemory (reply_of n.answer)
Tells (saying.Short e) None r = r ≡ reply.Refused e
Tells (saying.Short e) (Some m) r = ⊥
Tells saying.Behind _ r = ⊥

-- a message of a client that stood here and stands there then: its note and its reply are what is to be said of it
abbrev pub IsTurn : SessionId → Standing → Turn → Standing → Type 0
IsTurn session from t to = IsBody t.body × (s : Saying) × Says session from t.body s to × Tells s t.note t.reply

-- a receipt is noted, if there is one, before these bytes are written
abbrev pub told_in : Option Noted → List ℕ → List Happened
told_in None bytes = Said bytes ∷ []
told_in (Some n) bytes = HasNoted n ∷ Said bytes ∷ []

-- ---- a session

-- a session as it began: what had happened on its wire before, and what its seat showed
pub record Begun : Type 0 where
  pub story : List Happened
  pub seat : SeatShown

-- what has happened since a session began, what it holds of the bytes that came, and how its client stands: bytes come only if it holds no whole message;
-- the message at the front is taken, its receipt noted and its reply written, before anything else happens; each message finds the seat as the one before
-- left it. What is said is written to the wire, which may keep it. It is sent in this order, and all of it before the next bytes are heard, before the session
-- waits for an outcome or a handler, and at its end
pub data Talking : (session : SessionId) (begun : Begun) (story : List Happened) (held : List ℕ) (standing : Standing) → Type 0 where
  begins : (session : SessionId) (begun : Begun) → Talking session begun begun.story [] (standing_of at_first begun.seat)
  hears : (session : SessionId) (begun : Begun) (story : List Happened) (held piece : List ℕ) (standing : Standing)
      → Talking session begun story held standing → IsPartial held → piece ≢ []
      → Talking session begun (story ++ Heard piece ∷ []) (held ++ piece) standing
  turns : (session : SessionId) (begun : Begun) (story : List Happened) (held : List ℕ) (t : Turn) (from to : Standing)
      → Talking session begun story (frame t.body ++ held) from → IsTurn session from t to
      → Talking session begun (story ++ told_in t.note (reply_bytes t.reply)) held to

-- it holds no whole message, and is at a read
abbrev pub IsToRead : SessionId → Begun → List Happened → Standing → Type 0
IsToRead session begun story last = (held : List ℕ) × Talking session begun story held last × IsPartial held

-- a length stands there that no frame has
abbrev pub HasNoMore : SessionId → Begun → List Happened → Standing → Type 0
HasNoMore session begun story last = (held : List ℕ) × Talking session begun story held last × HasFault held

-- an ask was made of which nothing can be said: it gets no receipt and no reply
abbrev pub HasNoReply : SessionId → Begun → List Happened → Standing → Type 0
HasNoReply session begun story last = (body rest : List ℕ) × (from : Standing)
    × Talking session begun story (frame body ++ rest) from × IsBody body × Says session from body saying.Behind last

-- a reply could be written only in part, or not at all
abbrev pub IsCutShort : SessionId → Begun → List Happened → Standing → Type 0
IsCutShort session begun story last = (before : List Happened) × (t : Turn) × (from : Standing) × (rest first others : List ℕ)
    × Talking session begun before (frame t.body ++ rest) from × IsTurn session from t last
    × (reply_bytes t.reply ≡ first ++ others) × (story ≡ before ++ told_in t.note first)

-- what was written before could not all be sent: at a read, or where the session would have ended without that
abbrev pub IsNotSent : SessionId → Begun → List Happened → Standing → Type 0
IsNotSent session begun story last = IsToRead session begun story last ⊎ (HasNoMore session begun story last ⊎ HasNoReply session begun story last)

-- how a session ends, and how its client stands then: where it holds no whole message, at a read that told the end of the input, a failed read, or its last
-- read; at a length that no frame has; at an ask of which nothing can be said; or where a write or a sending failed. Only there some of what was said may not
-- have been sent, of the replies since the last read or the last wait: in every other end all of it was
abbrev pub Ends : SessionId → Served → Begun → List Happened → Standing → Type 0
Ends session Ended begun story last = (before : List Happened) × IsToRead session begun before last × (story ≡ before ++ Heard [] ∷ [])
Ends session ReadFault begun story last = IsToRead session begun story last
Ends session TurnsUsed begun story last = IsToRead session begun story last
Ends session Malformed begun story last = HasNoMore session begun story last
Ends session WriteFault begun story last = IsCutShort session begun story last ⊎ IsNotSent session begun story last
Ends session Behind begun story last = HasNoReply session begun story last
Ends session NotOpened begun story last = ⊥

-- a wire that tells what happened on it tells of a session that began with this seat and ended so, with its client there
abbrev pub Talked : SessionId → Served → SeatShown → Standing → WireShown → WireShown → Type 0
Talked session served seat last old new = (begun : List Happened) → old.story ≡ Some begun
    → (story : List Happened) × (new.story ≡ Some story) × Ends session served (record { story = begun; seat = seat }) story last

-- a fault of the wire comes if its count rose; else the count is as before
abbrev pub EndCounts : Served → ℕ → ℕ → Type 0
EndCounts WriteFault before after = Rose before after
EndCounts ReadFault before after = Rose before after
EndCounts _ before after = after ≡ before

-- a session that was served: its client was opened in hall 0, there was a talk, at its end the wire keeps nothing, and the client was reported gone from where
-- it stood then; or it was shut out of hall 0, which is told, and nothing happened on the wire
abbrev pub Serves : SessionId → Served → SeatShown → SeatShown → WireShown → WireShown → Type 0
Serves session served seat seat' old new =
    ((first : SeatShown) × (last : Standing) × IsOpened session Zero seat first × Talked session served first last old new × (new.kept ≡ false)
    × HasGone session last.place.hall last.seat seat')
    ⊎ ((served ≡ NotOpened) × (s : Saying) × IsShutOut session Zero seat seat' s × (new ≡ old))
