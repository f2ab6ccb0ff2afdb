-- What a receipt says of an event, and what has to be copied of a step for a record.
use Rattle.std.specs.Prelude.{◌≡◌, ◌⊎◌, ℕ, List, length, Option, Some, None, option_map}
use Rattle.rk_names.specs.declared.errors.Errno.TheVariants as errno
use Rattle.rk_macro.specs.declared.subject.Subject.{Subject}
use Rattle.rk_message.specs.declared.reply.Reply.TheVariants.{Bytes}
use Rattle.rk_machine.specs.Event.{Event}
use Rattle.rk_machine.specs.declared.event.EventOf.TheVariants as event
use Rattle.rk_machine.specs.declared.event.Answer.{Answer}
use Rattle.rk_machine.specs.declared.event.Answer.TheVariants.{Done, Start, Refused}
use Rattle.rk_message.specs.Ask.{Ask}
use Rattle.rk_record.specs.declared.told.ToldOf.{ToldOf}
use Rattle.rk_record.specs.declared.told.ToldOf.TheVariants as told
use Rattle.rk_record.specs.declared.copies.Copies.{Copies}
use Rattle.rk_record.specs.declared.copies.Copies.TheVariants as copies
use Rattle.rk_record.specs.declared.ready.Ready.{Ready}

-- an event as a receipt says it
abbrev pub Told : Type 0
Told = ToldOf Ask

-- what a receipt says of an event: all, but of a payload its length
abbrev pub told_of : Event → Told
told_of (event.Opened s) = told.Opened s
told_of (event.Asked s a) = told.Asked s a
told_of (event.Launched k r) = told.Launched k r
told_of (event.Ended k how payload) = told.Ended k how (option_map length payload)
told_of (event.Collect s) = told.Collect s
told_of (event.Gone s) = told.Gone s

-- the subject of a start
abbrev pub started : Answer → Option Subject
started (Start k subject) = Some subject
started _ = None

-- of a start there is a copy of its subject
abbrev pub FitsStart : Option Subject → Answer → Type 0
FitsStart copy (Start k subject) = copy ≡ Some subject
FitsStart copy _ = Unit {0}

-- an event other than an ask, and so copied without memory but for its payload
abbrev pub IsNoAsk : Event → Type 0
IsNoAsk (event.Asked s a) = ⊥
IsNoAsk _ = Unit {0}

-- an answer that changes nothing: bytes, or out of memory
abbrev pub IsIdleAnswer : Answer → Type 0
IsIdleAnswer a = ((b : List ℕ) × (a ≡ Done (Bytes b))) ⊎ (a ≡ Refused errno.Enomem)

-- of the payload of an end there is a copy
abbrev pub IsCopied : Event → Option (List ℕ) → Type 0
IsCopied (event.Ended k how (Some payload)) copy = copy ≡ Some payload
IsCopied _ copy = Unit {0}

-- what is copied of an event before a step: of an ask for the step and for the record, of an end its payload for the record
abbrev pub AreCopies : Event → Copies → Type 0
AreCopies (event.Asked s a) (copies.Ask step kept) = (step ≡ a) × (kept ≡ a)
AreCopies (event.Asked s a) _ = ⊥
AreCopies _ (copies.Ask step kept) = ⊥
AreCopies e (copies.End copy) = IsCopied e (Some copy)
AreCopies e copies.Nothing = IsCopied e None

-- what a turn has of an event before its step: what the step takes and what the record keeps are the event, and the receipt says it
pub record IsReady (e : Event) (r : Ready) : Type 0 where
  pub step : r.step ≡ e
  pub copy : r.copy ≡ e
  pub told : r.told ≡ told_of e
