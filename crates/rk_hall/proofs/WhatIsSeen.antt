-- What callers see of a turn under a lock.
use Rattle.std.proofs.Common.{◌≡◌, ℕ, refl, arith}
use Rattle.std.specs.Prelude.{Result, Ok, Err, IfOk}
use Rattle.rk_machine.specs.Event.{Event}
use Rattle.rk_machine.specs.declared.event.Answer.{Answer}
use Rattle.rk_record.specs.declared.hall_no.HallNo.{HallNo}
use Rattle.rk_record.specs.declared.hall_no.HallNo.TheVariants.{Zero, One, Two, Three}
use Rattle.rk_record.specs.HallNumbers.{hall_number}
use Rattle.rk_record.specs.Record.{HallShown}
use Rattle.rk_record.specs.Turns.{Noted}
use Rattle.rk_hall.specs.declared.lapse.Lapse.{Lapse}
use Rattle.rk_hall.specs.declared.lapse.Lapse.TheVariants.{Behind, Stray}
use Rattle.rk_hall.specs.Seats.{PartShown, OwedPart}
use Rattle.rk_hall.specs.Locked.{OwedTurn, IsOwedOr}

-- a number is that of one hall
pub same_hall : (a b : HallNo) → hall_number a ≡ hall_number b → a ≡ b
same_hall Zero Zero e = refl
same_hall One One e = refl
same_hall Two Two e = refl
same_hall Three Three e = refl
same_hall Zero One e = absurd (omega (arith, e))
same_hall Zero Two e = absurd (omega (arith, e))
same_hall Zero Three e = absurd (omega (arith, e))
same_hall One Zero e = absurd (omega (arith, e))
same_hall One Two e = absurd (omega (arith, e))
same_hall One Three e = absurd (omega (arith, e))
same_hall Two Zero e = absurd (omega (arith, e))
same_hall Two One e = absurd (omega (arith, e))
same_hall Two Three e = absurd (omega (arith, e))
same_hall Three Zero e = absurd (omega (arith, e))
same_hall Three One e = absurd (omega (arith, e))
same_hall Three Two e = absurd (omega (arith, e))

-- what a turn did is what its caller sees
pub owed_part : (place : HallNo) (old : HallShown) (now : ℕ) (e : Event) (p p' : PartShown) (new : HallShown) (receipt : Result Noted Lapse) (IsAnswer : Answer → Type 0)
    → OwedTurn old now e p p' new receipt IsAnswer → IsOwedOr old e receipt → IfOk receipt (λ r. hall_number r.hall ≡ hall_number place) → OwedPart place now e p p' receipt
owed_part place old now e p p' new (Ok r) IsAnswer t owed hall =
    (same_hall r.hall place hall, t.0.moment, t.0.told, t.0.answer owed, t.1, t.2)
owed_part place old now e p p' new (Err (Behind seen found)) IsAnswer t owed hall = (t.1, t.2, t.3, t.4)
owed_part place old now e p p' new (Err Stray) IsAnswer t owed hall = t.2
