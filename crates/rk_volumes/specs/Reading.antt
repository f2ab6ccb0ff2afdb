-- What readers of parts find: the value that the bytes or the row are of, or that there is none.
use Rattle.std.specs.Prelude.{◌≡◌, ℕ, List}
use Rattle.rk_names.specs.declared.numbers.SessionId.{SessionId}
use Rattle.rk_message.specs.declared.fault.ReadError.{ReadError}
use Rattle.rk_message.specs.declared.fault.ReadError.TheVariants.{Fault, NoMemory}
use Rattle.rk_machine.specs.Event.{Event}
use Rattle.rk_machine.specs.declared.event.Answer.{Answer}
use Rattle.rk_volumes.specs.declared.fault.Unread.{Unread}
use Rattle.rk_volumes.specs.declared.fault.Unread.TheVariants as unread
use Rattle.rk_volumes.specs.declared.row.Row.{Row as RowRead}
use Rattle.rk_volumes.specs.Kinds.{session_kind, session_number}
use Rattle.rk_volumes.specs.Rows.{Row, event_row, answer_row, row_bytes}
use Rattle.rk_volumes.specs.Rules.{IsSession, IsEvent, IsAnswer}

-- a row that was read
abbrev pub row_by : RowRead → Row
row_by r = record { kind = r.kind; how = r.how; number = r.number; rest = r.rest.now }

-- the row names the session
abbrev pub NamesSession : Row → SessionId → Type 0
NamesSession r s = (r.how ≡ session_kind s) × (r.number ≡ session_number s)

-- the row names no session
abbrev pub NamesNone : Row → Type 0
NamesNone r = (s : SessionId) → IsSession s → NamesSession r s → ⊥

-- the row is of no event
abbrev pub IsNoEvent : Row → Type 0
IsNoEvent r = (e : Event) → IsEvent e → r ≡ event_row e → ⊥

-- the row is of no answer
abbrev pub IsNoAnswer : Row → Type 0
IsNoAnswer r = (a : Answer) → IsAnswer a → r ≡ answer_row a → ⊥

-- the bytes are no event
abbrev pub HasNoEvent : List ℕ → Type 0
HasNoEvent body = (e : Event) → IsEvent e → body ≡ row_bytes (event_row e) → ⊥

-- the bytes are no answer
abbrev pub HasNoAnswer : List ℕ → Type 0
HasNoAnswer body = (a : Answer) → IsAnswer a → body ≡ row_bytes (answer_row a) → ⊥

-- what a part is whose message was not read: bad if that spells nothing, and else out of memory
abbrev pub unread_by : ReadError → Unread
unread_by (Fault f) = unread.Bad
unread_by NoMemory = unread.NoMemory
