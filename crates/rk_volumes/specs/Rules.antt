-- What the types of a step promise of its parts.
use Rattle.std.specs.Prelude.{◌≡◌, ℕ, ◌<◌, ◌≤◌, ◌^◌, List, length, Option, Some, None}
use Rattle.rk_names.specs.declared.numbers.SessionId.{SessionId}
use Rattle.rk_names.specs.declared.numbers.SessionId.TheVariants.{Client, Handler}
use Rattle.rk_names.specs.Rules.{payload_fault}
use Rattle.rk_message.specs.Asks.{IsAsk}
use Rattle.rk_message.specs.Replies.{IsReply}
use Rattle.rk_macro.specs.declared.subject.Subject.{Subject}
use Rattle.rk_machine.specs.Event.{Event}
use Rattle.rk_machine.specs.declared.event.EventOf.TheVariants as event
use Rattle.rk_machine.specs.declared.event.Answer.{Answer}
use Rattle.rk_machine.specs.declared.event.Answer.TheVariants as answer
use Rattle.rk_record.specs.declared.recorded.Recorded.{Recorded}
use Rattle.rk_volumes.specs.Kinds.{status_of}
use Rattle.rk_volumes.specs.Rows.{Row, row_bytes, event_row, answer_row, request_of}

-- a number of four bytes
abbrev pub IsWord : ℕ → Type 0
IsWord n = n < 2 ^ 32

-- a serial of a key or a ring
abbrev pub IsSerial : ℕ → Type 0
IsSerial k = (1 ≤ k) × (k ≤ 2147483647)

-- a client by its number, a handler by its key
abbrev pub IsSession : SessionId → Type 0
IsSession (Client n) = IsWord n
IsSession (Handler k) = IsSerial k

-- a payload keeps its rule, if there is one
abbrev pub IsPutOut : Option (List ℕ) → Type 0
IsPutOut None = Unit {0}
IsPutOut (Some payload) = payload_fault payload ≡ None

-- the parts of an event
abbrev pub IsEvent : Event → Type 0
IsEvent (event.Opened s) = IsSession s
IsEvent (event.Asked s a) = IsSession s × IsAsk a
IsEvent (event.Launched k ran) = IsSerial k
IsEvent (event.Ended k how payload) = IsSerial k × (status_of how < 256) × IsPutOut payload
IsEvent (event.Collect s) = IsSession s
IsEvent (event.Gone s) = IsSession s

-- the parts of a subject
pub record IsSubject (s : Subject) : Type 0 where
  pub key : IsSerial s.key
  pub uid : IsWord s.uid
  pub gid : IsWord s.gid
  pub thread : IsWord s.thread
  pub process : IsWord s.process
  pub session : IsWord s.session
  pub names : IsAsk (request_of s)

-- the parts of an answer
abbrev pub IsAnswer : Answer → Type 0
IsAnswer (answer.Done r) = IsReply r
IsAnswer (answer.Start k s) = IsSerial k × IsSubject s
IsAnswer (answer.Negate k) = IsSerial k
IsAnswer (answer.Waiting k) = IsSerial k
IsAnswer (answer.Refused e) = Unit {0}

-- the length of a row can be told in four bytes
abbrev pub IsTold : Row → Type 0
IsTold r = IsWord (length (row_bytes r))

-- the parts of a step
pub record IsStep (s : Recorded) : Type 0 where
  pub now : s.now < 2 ^ 64
  pub event : IsEvent s.event
  pub event_told : IsTold (event_row s.event)
  pub answer : IsAnswer s.answer
  pub answer_told : IsTold (answer_row s.answer)
