-- Events and answers as rows. Numbers stand with their highest byte first.
use Rattle.std.specs.Prelude.{ℕ, List, [], ◌∷◌, ◌++◌, pos, Some}
use Rattle.std.specs.Int.{w32, to_be_bytes}
use Rattle.rk_names.specs.Numbers.{errno_number}
use Rattle.rk_message.specs.Ask.{Ask}
use Rattle.rk_message.specs.declared.ask.AskOf.TheVariants as ask
use Rattle.rk_message.specs.Wire.{spelling}
use Rattle.rk_message.specs.Asks.{ask_message}
use Rattle.rk_message.specs.Replies.{reply_message}
use Rattle.rk_macro.specs.declared.subject.Subject.{Subject}
use Rattle.rk_machine.specs.Event.{Event}
use Rattle.rk_machine.specs.declared.event.EventOf.TheVariants as event
use Rattle.rk_machine.specs.declared.event.Answer.{Answer}
use Rattle.rk_machine.specs.declared.event.Answer.TheVariants as answer
use Rattle.rk_volumes.specs.Kinds.{session_kind, session_number, ran_kind, how_kind, status_of, put_out, op_kind}

-- two bytes, a number of four bytes, and what follows them
pub record Row : Type 0 where
  pub kind : ℕ
  pub how : ℕ
  pub number : ℕ
  pub rest : List ℕ

-- the bytes of a row
abbrev pub row_bytes : Row → List ℕ
row_bytes r = r.kind ∷ r.how ∷ (to_be_bytes w32 r.number ++ r.rest)

-- the row of an event: a session or a key, and what it asks, or has output, after its status
abbrev pub event_row : Event → Row
event_row (event.Opened s) = record { kind = 1; how = session_kind s; number = session_number s; rest = [] }
event_row (event.Asked s a) = record { kind = 2; how = session_kind s; number = session_number s; rest = spelling (ask_message a) }
event_row (event.Launched k ran) = record { kind = 3; how = ran_kind ran; number = k; rest = [] }
event_row (event.Ended k how payload) = record { kind = 4; how = how_kind how; number = k; rest = status_of how ∷ put_out payload }
event_row (event.Collect s) = record { kind = 5; how = session_kind s; number = session_number s; rest = [] }
event_row (event.Gone s) = record { kind = 6; how = session_kind s; number = session_number s; rest = [] }

-- the names of a subject, as the request that asks for them
abbrev pub request_of : Subject → Ask
request_of s = ask.Request s.typ s.desc (Some s.callout) (pos 0)

-- a subject: its key, who asked and from which rings, and its names
abbrev pub subject_bytes : Subject → List ℕ
subject_bytes s =
    to_be_bytes w32 s.key ++ (to_be_bytes w32 s.uid ++ (to_be_bytes w32 s.gid ++ (to_be_bytes w32 s.thread ++ (to_be_bytes w32 s.process
    ++ (to_be_bytes w32 s.session ++ spelling (ask_message (request_of s)))))))

-- the row of an answer: a reply, what is started for a key, the key that is waited for, or an error
abbrev pub answer_row : Answer → Row
answer_row (answer.Done r) = record { kind = 1; how = 0; number = 0; rest = spelling (reply_message r) }
answer_row (answer.Start k s) = record { kind = 2; how = op_kind s.op; number = k; rest = subject_bytes s }
answer_row (answer.Negate k) = record { kind = 3; how = 0; number = k; rest = [] }
answer_row (answer.Waiting k) = record { kind = 4; how = 0; number = k; rest = [] }
answer_row (answer.Refused e) = record { kind = 5; how = errno_number e; number = 0; rest = [] }
