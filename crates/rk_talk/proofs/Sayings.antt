-- What is said of a message, and that it is settled.
use Rattle.std.proofs.Common.{◌≡◌, ◌⊎◌, ℕ, List, inl, inr, refl, sym, ap, subst, ◌∙◌}
use Rattle.std.specs.Prelude.{Option, Some, None, Result, Err}
use Rattle.rk_names.specs.declared.errors.Errno.{Errno}
use Rattle.rk_names.specs.declared.errors.Errno.TheVariants.{Enomem}
use Rattle.rk_names.specs.declared.numbers.SessionId.{SessionId}
use Rattle.rk_message.specs.Ask.{Ask}
use Rattle.rk_message.specs.declared.fault.Fault.{Fault}
use Rattle.rk_message.specs.declared.fault.ReadError.{ReadError}
use Rattle.rk_message.specs.declared.fault.ReadError.TheVariants as unreadable
use Rattle.rk_message.specs.Bodies.{IsRefusedAs}
use Rattle.rk_message.specs.Faults.{error_answer}
use Rattle.rk_message.specs.Leftmost.{IsFaultOf}
use Rattle.rk_message.specs.Table.{asks}
use Rattle.rk_auth.specs.declared.session.Outcome.{Outcome}
use Rattle.rk_auth.specs.declared.session.Outcome.TheVariants.{Found, Failed}
use Rattle.rk_machine.specs.Steps.{told_as}
use Rattle.rk_machine.specs.declared.event.EventOf.TheVariants.{Asked}
use Rattle.rk_record.specs.declared.hall_no.HallNo.{HallNo}
use Rattle.rk_record.specs.declared.told.ToldOf.TheVariants as told
use Rattle.rk_record.specs.Turns.{Noted}
use Rattle.rk_machine.specs.declared.event.Answer.{Answer}
use Rattle.rk_record.specs.Copies.{started}
use Rattle.rk_hall.specs.Seats.{HasLaunch, IsCalled, SeatShown, TokenShown, after_call, part, with_part}
use Rattle.rk_hall.specs.declared.lapse.CallFault.{CallFault}
use Rattle.rk_hall.specs.declared.lapse.CallFault.TheVariants as fault
use Rattle.rk_talk.specs.declared.saying.Saying.{Saying}
use Rattle.rk_talk.specs.declared.saying.Saying.TheVariants as saying
use Rattle.rk_talk.specs.Said.{HasSettled, IsAnswered, IsCollected, IsNotAsked, IsRefusal, IsSettled, IsToWait, Settles}
use Rattle.rk_talk.specs.Stays.{Stays}

abbrev is_there : {A : Type 0} → Option A → Type 0
is_there (Some x) = Unit {0}
is_there None = ⊥

-- where nothing was started, there is no launch
pub none_started : (hall : HallNo) (a : Answer) (launch : Option TokenShown) → HasLaunch hall a launch → started a ≡ None → launch ≡ None
none_started hall a (Some l) has is = absurd (subst is_there (sym (ap started has.1) ∙ is) tt)
none_started hall a None has is = refl

-- if its call gave this receipt
pub receipt_answers : (session : SessionId) (hall : HallNo) (now : ℕ) (a : Ask) (old called mid new : SeatShown) (n : Noted) (launch : Option TokenShown)
    (s : Saying) → IsCalled hall now (told.Asked session a) (part hall old) n → called ≡ with_part hall old (after_call (part hall old) (Asked session a) n)
    → HasLaunch hall n.answer launch → Stays called mid → (launch ≡ None → mid ≡ called) → Settles hall session n mid new s
    → IsAnswered session hall a old new s
receipt_answers session hall now a old called mid new n launch s noted is has stays idle settles =
    HasSettled now n mid noted (subst (λ seat. Stays seat mid) is stays) (λ none. idle (none_started hall n.answer launch has none) ∙ is) settles

-- if its call was refused
pub refusal_settled : (f : CallFault) (s : Saying) → IsRefusal f s → IsSettled s
refusal_settled (fault.Behind seen found) s is = subst IsSettled (sym is) tt
refusal_settled fault.Full s is = subst IsSettled (sym is) tt
refusal_settled fault.NoMemory s is = subst IsSettled (sym is) tt

outcome_settled : (o : Outcome) → IsToWait (told_as o) → ⊥
outcome_settled (Found k) waits = waits
outcome_settled (Failed e) waits = waits

collected_settled : (hall : HallNo) (now : ℕ) (session : SessionId) (old new : SeatShown) (s : Saying) → IsCollected hall now session old new s → IsSettled s
collected_settled hall now session old new (saying.Noted n) is = λ waits. outcome_settled is.0.3.0 (subst IsToWait is.0.3.1 waits)
collected_settled hall now session old new (saying.Short e) is = tt
collected_settled hall now session old new saying.Behind is = tt

-- if its call gave this receipt
receipt_settled : (hall : HallNo) (session : SessionId) (old new : SeatShown) (r : Noted) (s : Saying) → Settles hall session r old new s → IsSettled s
receipt_settled hall session old new r s (inl is) = subst IsSettled (sym is.0) is.1
receipt_settled hall session old new r s (inr waits) = collected_settled hall waits.1 session old new s waits.2

-- however its ask came to it
pub answered_settled : (session : SessionId) (hall : HallNo) (a : Ask) (old new : SeatShown) (s : Saying) → IsAnswered session hall a old new s → IsSettled s
answered_settled session hall a old new s (IsNotAsked f refused is same) = refusal_settled f s is
answered_settled session hall a old new s (HasSettled now n mid called stays alone settles) = receipt_settled hall session mid new n s settles
