-- One turn of a hall.
use Rattle.std.specs.Prelude.{◌≡◌, ◌≢◌, true, ℕ, ◌+◌, List, [], ◌∷◌, ◌++◌, length}
use Rattle.rk_names.specs.declared.errors.Errno.TheVariants as errno
use Rattle.rk_machine.specs.Steps.{Beginning, Past, Step, Run}
use Rattle.rk_machine.specs.Laws.{ContinuesTo}
use Rattle.rk_machine.specs.Views.{is_owed}
use Rattle.rk_machine.specs.Owing.{constructions, closed, begun}
use Rattle.rk_machine.specs.Recording.{IsOwedAnswer}
use Rattle.rk_machine.specs.Event.{Event}
use Rattle.rk_machine.specs.declared.event.Answer.TheVariants.{Refused}
use Rattle.rk_record.specs.declared.recorded.Recorded.{Recorded}
use Rattle.rk_message.specs.Ask.{Ask}
use Rattle.rk_record.specs.declared.receipt.ReceiptOf.{ReceiptOf}
use Rattle.rk_record.specs.Copies.{told_of}
use Rattle.rk_record.specs.Record.{HallShown}

-- what a receipt says, whether it borrows its ask or not
abbrev pub Noted : Type 0
Noted = ReceiptOf Ask

-- the step is what the receipt says: its moment, its event, its answer
pub record IsStepOf (r : Noted) (s : Recorded) : Type 0 where
  pub moment : s.now ≡ r.moment
  pub told : told_of s.event ≡ r.told
  pub answer : s.answer ≡ r.answer

-- one step was recorded, the book changed by that step alone, and the receipt is that step
pub record Turned (old : HallShown) (now : ℕ) (event : Event) (r : Noted) (new : HallShown) : Type 0 where
  pub step : Step old.world now event r.answer new.world
  pub steps : new.steps ≡ old.steps ++ record { now = now; event = event; answer = r.answer } ∷ []
  -- all else of the hall is as it was
  pub same : new ≡ record old { world = new.world; steps = new.steps }
  pub hall : r.hall ≡ old.no
  pub volume : r.volume ≡ old.index
  pub number : r.number ≡ old.before + length old.steps + 1
  pub moment : r.moment ≡ now
  pub told : r.told ≡ told_of event
  -- whatever run led to the old world goes on with this step, and obeys the laws
  pub laws : (from : Beginning) (past : List Past) → Run from past old.world
      → ContinuesTo from (record { now = now; event = event; answer = r.answer } ∷ past) new.world
  -- out of memory is no step
  pub memory : r.answer ≢ Refused errno.Enomem
  -- what is owed is answered so
  pub answer : is_owed old.world event ≡ true → IsOwedAnswer event r.answer
  -- a start is one construction more, and an ending one less
  pub balance : constructions new.world + closed event r.answer ≡ constructions old.world + begun r.answer
