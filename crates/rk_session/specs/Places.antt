-- Where a client stands, and what is to be said of its messages there.
use Rattle.std.specs.Prelude.{◌≡◌, ◌≢◌, ◌%◌, ℕ, Bool, true, false, List}
use Rattle.rk_names.specs.declared.errors.Errno.{Errno}
use Rattle.rk_names.specs.declared.numbers.SessionId.{SessionId}
use Rattle.rk_message.specs.Ask.{Ask}
use Rattle.rk_message.specs.declared.ask.AskOf.TheVariants as ask
use Rattle.rk_message.specs.Bodies.{Spells, IsRefusedAs}
use Rattle.rk_machine.specs.declared.event.Answer.{Answer}
use Rattle.rk_machine.specs.declared.event.Answer.TheVariants as answer
use Rattle.rk_record.specs.declared.hall_no.HallNo.{HallNo}
use Rattle.rk_record.specs.declared.hall_no.HallNo.TheVariants.{Zero}
use Rattle.rk_record.specs.HallNumbers.{hall_number}
use Rattle.rk_hall.specs.Seats.{SeatShown}
use Rattle.rk_talk.specs.Said.{IsAnswered}
use Rattle.rk_talk.specs.declared.saying.Saying.{Saying}
use Rattle.rk_talk.specs.declared.saying.Saying.TheVariants as saying
use Rattle.rk_session.specs.declared.standing.Place.{Place}
use Rattle.rk_session.specs.Opening.{IsMoved, IsShutOut}

-- a session begins in hall 0, and has no context there
abbrev pub at_first : Place
at_first = record { hall = Zero; greeted = false }

-- where a client stands, and what the seat of its session shows then
pub record Standing : Type 0 where
  pub place : Place
  pub seat : SeatShown

-- a client that stands here, with this seat
abbrev pub standing_of : Place → SeatShown → Standing
standing_of place seat = record { place = place; seat = seat }

-- the ask that gives a session its context
abbrev pub IsHello : Ask → Type 0
IsHello (ask.Hello hello) = Unit {0}
IsHello _ = ⊥

-- a HELLO whose uid is of this hall
abbrev pub IsHelloOf : HallNo → Ask → Type 0
IsHelloOf hall (ask.Hello hello) = hall_number hall ≡ hello.uid % 4
IsHelloOf hall _ = ⊥

-- an answer that something was done
abbrev pub is_done : Answer → Bool
is_done (answer.Done r) = true
is_done _ = false

-- what is said is that something was done
abbrev pub says_done : Saying → Bool
says_done (saying.Noted n) = is_done n.answer
says_done (saying.Short e) = false
says_done saying.Behind = false

-- ---- what is to be said

-- of a message of a client that stands here, and how it stands then
pub data Says (session : SessionId) (from : Standing) (body : List ℕ) : Saying → Standing → Type 0 where
  -- the body spells no ask: nothing was done
  NotRead : (e : Errno) → IsRefusedAs e body → Says session from body (saying.Short e) from
  -- its ask is made where the client stands
  AsksHere : (a : Ask) (s : Saying) (seat : SeatShown) → Spells a body → (IsHello a → from.place.greeted ≡ true)
      → IsAnswered session from.place.hall a from.seat seat s → Says session from body s (standing_of from.place seat)
  -- the HELLO of a client without a context is asked in the hall of its uid, to which the client moves before, if that is another one: there it stands
  -- then, with a context if the HELLO was done
  Greets : (a : Ask) (s : Saying) (mid : SeatShown) (to : Standing) → Spells a body → from.place.greeted ≡ false → IsHelloOf to.place.hall a
      → IsMoved session from.place.hall to.place.hall from.seat mid → IsAnswered session to.place.hall a mid to.seat s
      → to.place.greeted ≡ says_done s → Says session from body s to
  -- or the client could not be opened there, and stays
  ShutOut : (a : Ask) (s : Saying) (there : HallNo) (seat : SeatShown) → Spells a body → from.place.greeted ≡ false → IsHelloOf there a
      → there ≢ from.place.hall → IsShutOut session there from.seat seat s → Says session from body s (standing_of from.place seat)
