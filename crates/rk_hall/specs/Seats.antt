-- What seats and tokens show, and what a call does to a seat.
use Rattle.std.specs.Prelude.{◌≡◌, ◌⊎◌, ℕ, ◌+◌, ◌-◌, ◌<◌, ◌≤◌, Bool, true, false, Option, Some, None, Result, Ok, Err, nat_lt, if◌then◌else◌}
use Rattle.rk_names.specs.declared.errors.Errno.TheVariants as errno
use Rattle.rk_macro.specs.declared.subject.Subject.{Subject}
use Rattle.rk_macro.specs.declared.subject.Op.TheVariants as op
use Rattle.rk_message.specs.declared.reply.Reply.TheVariants.{Number}
use Rattle.rk_auth.specs.declared.session.Outcome.{Outcome}
use Rattle.rk_machine.specs.Event.{Event}
use Rattle.rk_machine.specs.declared.event.EventOf.TheVariants.{Opened, Asked}
use Rattle.rk_machine.specs.declared.event.Ran.{Ran}
use Rattle.rk_machine.specs.declared.event.Ran.TheVariants as ran
use Rattle.rk_machine.specs.declared.event.Answer.{Answer}
use Rattle.rk_machine.specs.declared.event.Answer.TheVariants.{Done, Refused, Start}
use Rattle.rk_machine.specs.Steps.{told_as}
use Rattle.rk_machine.specs.Recording.{IsOwedAnswer}
use Rattle.rk_record.specs.declared.hall_no.HallNo.{HallNo}
use Rattle.rk_record.specs.declared.hall_no.HallNo.TheVariants.{Zero, One, Two, Three}
use Rattle.rk_record.specs.Copies.{Told, told_of, started}
use Rattle.rk_record.specs.Turns.{Noted}
use Rattle.rk_hall.specs.declared.lapse.Lapse.{Lapse}
use Rattle.rk_hall.specs.declared.lapse.Lapse.TheVariants.{Behind, Stray}
use Rattle.rk_hall.specs.declared.lapse.CallFault.{CallFault}
use Rattle.rk_hall.specs.declared.lapse.CallFault.TheVariants as fault

-- ---- seats

-- a seat's part in one hall: the turns that it made there, the greatest number that it has seen, the clients that it opened
pub record PartShown : Type 0 where
  pub calls : ℕ
  pub seen : ℕ
  pub clients : ℕ

-- a seat: a part in each hall
pub record SeatShown : Type 0 where
  pub zero : PartShown
  pub one : PartShown
  pub two : PartShown
  pub three : PartShown

-- its part in this hall
abbrev pub part : HallNo → SeatShown → PartShown
part Zero s = s.zero
part One s = s.one
part Two s = s.two
part Three s = s.three

-- the seat with another part in this hall
abbrev pub with_part : HallNo → SeatShown → PartShown → SeatShown
with_part Zero s p = record s { zero = p }
with_part One s p = record s { one = p }
with_part Two s p = record s { two = p }
with_part Three s p = record s { three = p }

-- a part that has made no turn
abbrev pub no_calls : PartShown
no_calls = record { calls = 0; seen = 0; clients = 0 }

-- a new seat
abbrev pub new_seat : SeatShown
new_seat = record { zero = no_calls; one = no_calls; two = no_calls; three = no_calls }

-- the clients of all its parts
abbrev pub clients_of : SeatShown → ℕ
clients_of s = s.zero.clients + s.one.clients + s.two.clients + s.three.clients

-- a part that has heard a number
abbrev pub heard : PartShown → ℕ → PartShown
heard p number = record p { seen = if nat_lt p.seen number then number else p.seen }

-- how many clients a step opens
abbrev pub opens : Event → Answer → ℕ
opens (Opened s) (Done reply) = 1
opens e a = 0

-- a part after a call whose receipt is this
abbrev pub after_call : PartShown → Event → Noted → PartShown
after_call p e r = record { calls = p.calls + 1; seen = r.number; clients = p.clients + opens e r.answer }

-- a part with one client fewer, never under none
abbrev pub without_client : PartShown → PartShown
without_client p = record p { clients = p.clients - 1 }

-- ---- tokens

-- so many starts lead to a handler: no chain of them is longer than 8
abbrev pub IsDepth : ℕ → Type 0
IsDepth depth = (1 ≤ depth) × (depth ≤ 8)

-- a construction whose handler is to be started, or runs: where, and what its handler gets
pub record TokenShown : Type 0 where
  pub hall : HallNo
  pub key : ℕ
  pub subject : Subject
  pub depth : ℕ

-- the same construction, for the handler that says that the key can't be made
abbrev pub negated : TokenShown → TokenShown
negated t = record t { subject = record t.subject { op = op.Negate } }

-- the handler of a construction runs after this: it was started, and the construction was there
abbrev pub runs_on : Ran → Result Noted Lapse → Bool
runs_on ran.Failed receipt = false
runs_on ran.Plain (Err Stray) = false
runs_on ran.Piped (Err Stray) = false
runs_on _ _ = true

-- ---- calls

-- the events of a call: a client that is there, and an ask
abbrev pub IsCall : Event → Type 0
IsCall (Opened s) = Unit {0}
IsCall (Asked s a) = Unit {0}
IsCall _ = ⊥

-- why a call may be refused: its step would have a number that the seat has seen already; or places or memory are lacking
abbrev pub CallRefused : PartShown → CallFault → Type 0
CallRefused p (fault.Behind seen found) = (seen ≡ p.seen) × (1 ≤ found) × (found ≤ seen)
CallRefused p fault.Full = Unit {0}
CallRefused p fault.NoMemory = Unit {0}

-- the receipt is that of a call in this hall at this moment, of this, and its number is new to the part
abbrev pub IsCalled : HallNo → ℕ → Told → PartShown → Noted → Type 0
IsCalled hall now t p r = (r.hall ≡ hall) × (r.moment ≡ now) × (r.told ≡ t) × (p.seen < r.number)

-- a launch comes exactly with a start, of its key
abbrev pub HasLaunch : HallNo → Answer → Option TokenShown → Type 0
HasLaunch hall a (Some l) = (l.hall ≡ hall) × (a ≡ Start l.key l.subject)
HasLaunch hall a None = started a ≡ None

-- what the caller of a turn that was owed knows, of its part in that hall. One step is its own, and the receipt says it; or the event was not owed,
-- and there was no step. Or the step was taken all the same, and its number is one that the part has seen already
abbrev pub OwedPart : HallNo → ℕ → Event → PartShown → PartShown → Result Noted Lapse → Type 0
OwedPart hall now e p p' (Ok r) =
    (r.hall ≡ hall) × (r.moment ≡ now) × (r.told ≡ told_of e) × IsOwedAnswer e r.answer × (p.seen < r.number)
    × (p' ≡ record p { calls = p.calls + 1; seen = r.number })
OwedPart hall now e p p' (Err (Behind seen found)) =
    (seen ≡ p.seen) × (1 ≤ found) × (found ≤ seen) × (p' ≡ record p { calls = p.calls + 1 })
OwedPart hall now e p p' (Err Stray) = p' ≡ p

-- the same, of a seat, of which nothing else changed
abbrev pub OwedSeen : HallNo → ℕ → Event → SeatShown → SeatShown → Result Noted Lapse → Type 0
OwedSeen hall now e seat seat' receipt = OwedPart hall now e (part hall seat) (part hall seat') receipt × (seat' ≡ with_part hall seat (part hall seat'))

-- an answer of the form of an outcome: a number or an error
abbrev pub IsOutcome : Answer → Type 0
IsOutcome (Done (Number n)) = Unit {0}
IsOutcome (Refused e) = Unit {0}
IsOutcome _ = ⊥

-- the outcome of a wait, or EINVAL if there is none
abbrev pub IsOutcomeOrNone : Answer → Type 0
IsOutcomeOrNone a = ((o : Outcome) × (a ≡ told_as o)) ⊎ (a ≡ Refused errno.Einval)
