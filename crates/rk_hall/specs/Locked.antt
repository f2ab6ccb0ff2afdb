-- What is under the lock of a hall, and what a call does to it.
use Rattle.std.specs.Prelude.{◌≡◌, ℕ, ◌+◌, ◌-◌, ◌^◌, ◌<◌, ◌≤◌, true, false, length, min, refl, Some, Result, Ok, Err}
use Rattle.std.specs.Coded.{Coded, code_by, coded×, coded_ℕ}
use Rattle.std.specs.FinMap as map
use Rattle.rk_names.specs.declared.errors.Errno.TheVariants as errno
use Rattle.rk_machine.specs.Event.{Event}
use Rattle.rk_machine.specs.declared.event.Answer.{Answer}
use Rattle.rk_machine.specs.declared.event.Answer.TheVariants.{Start, Refused}
use Rattle.rk_machine.specs.World.{World}
use Rattle.rk_machine.specs.Views.{is_owed, depth_of}
use Rattle.rk_machine.specs.Owing.{constructions}
use Rattle.rk_record.specs.declared.hall_no.HallNo.{HallNo}
use Rattle.rk_record.specs.declared.hall_no.HallNo.TheVariants.{Zero, One, Two, Three}
use Rattle.rk_record.specs.HallNumbers.{hall_number}
use Rattle.rk_record.specs.Record.{HallShown, hall_code, IsFull}
use Rattle.rk_record.specs.Turns.{Noted, Turned}
use Rattle.rk_hall.specs.declared.counts.Counts.{Counts}
use Rattle.rk_hall.specs.declared.lapse.Lapse.{Lapse}
use Rattle.rk_hall.specs.declared.lapse.Lapse.TheVariants.{Behind, Stray}
use Rattle.rk_hall.specs.declared.lapse.CallFault.{CallFault}
use Rattle.rk_hall.specs.declared.lapse.CallFault.TheVariants as fault
use Rattle.rk_hall.specs.Seats.{PartShown, IsDepth}

-- what is under the lock: a hall, how many seats may still be made, the turns of seats that were given back, the strays, and the calls that were
-- answered EDQUOT
pub record LockedShown : Type 0 where
  pub hall : HallShown
  pub left : ℕ
  pub retired : ℕ
  pub strays : ℕ
  pub edquots : ℕ

-- what is under the lock as its five parts in a row, the form in which a model of a struct sees it
abbrev pub locked_code : Coded LockedShown
locked_code =
    code_by (HallShown × (ℕ × (ℕ × (ℕ × ℕ)))) (coded× hall_code (coded× coded_ℕ (coded× coded_ℕ (coded× coded_ℕ coded_ℕ))))
    (λ k. (k.hall, (k.left, (k.retired, (k.strays, k.edquots)))))
    (λ p. record { hall = p.0; left = p.1.0; retired = p.1.1.0; strays = p.1.1.1.0; edquots = p.1.1.1.1 }) (λ _. refl)

-- the first serial of a hall: its number, and 4 for hall 0
abbrev pub first_serial : HallNo → ℕ
first_serial Zero = 4
first_serial One = 1
first_serial Two = 2
first_serial Three = 3

-- how many steps the hall has taken
abbrev pub taken : HallShown → ℕ
taken h = h.before + length h.steps

-- what the lock keeps, by two ledgers. Of the one each part of a seat has a share, as much as its turns, and the lock the rest. Of the other each
-- token has one, and the lock as many as there were strays
pub record IsLocked (no : ℕ) (hall : HallShown) (left retired strays calls_total pool_parts pool_amount out_total home_parts home_amount : ℕ) : Type 0 where
  pub number : hall_number hall.no ≡ no
  -- the steps are the turns of all seats
  pub calls : calls_total ≡ taken hall
  pub pool : pool_parts ≡ left + 1
  pub most : left ≤ 4294967295
  pub gone : pool_amount ≡ retired
  -- the constructions are the tokens that are out, and the strays
  pub out : out_total ≡ constructions hall.world
  pub home : home_amount ≡ strays
  pub spare : home_parts + constructions hall.world ≡ 4294967296 + strays

-- the construction that an answer starts stands in the world, 1 to 8 starts deep
abbrev pub HasDepth : Answer → World → Type 0
HasDepth (Start k subject) w = (depth : ℕ) × (depth_of w k ≡ Some depth) × IsDepth depth
HasDepth _ w = Unit {0}

-- why a call was refused, and exactly then. Its step would have a number that the part has seen; or there are not as many places as it may need; or
-- an allocation failed
abbrev pub RefusedUnder : HallShown → Event → PartShown → CallFault → Type 0
RefusedUnder h e p (fault.Behind seen found) = (seen ≡ p.seen) × (found ≡ taken h + 1) × (found ≤ seen)
RefusedUnder h e p fault.Full = (p.seen ≤ taken h) × IsFull h e
RefusedUnder h e p fault.NoMemory = (p.seen ≤ taken h) × (IsFull h e → ⊥)

-- what a turn that was owed did to the hall and to the part, and what its answer was
abbrev pub OwedTurn : HallShown → ℕ → Event → PartShown → PartShown → HallShown → Result Noted Lapse → (Answer → Type 0) → Type 0
OwedTurn old now e p p' new (Ok r) IsAnswer =
    Turned old now e r new × (p.seen < r.number) × (p' ≡ record p { calls = p.calls + 1; seen = r.number }) × IsAnswer r.answer
OwedTurn old now e p p' new (Err (Behind seen found)) IsAnswer =
    ((r : Noted) × Turned old now e r new × (found ≡ r.number) × IsAnswer r.answer)
    × (seen ≡ p.seen) × (1 ≤ found) × (found ≤ seen) × (p' ≡ record p { calls = p.calls + 1 })
OwedTurn old now e p p' new (Err Stray) IsAnswer = (is_owed old.world e ≡ false) × (new ≡ old) × (p' ≡ p)

-- one stray more if the event was not owed
abbrev pub strays_of : Result Noted Lapse → ℕ
strays_of (Ok r) = 0
strays_of (Err (Behind seen found)) = 0
strays_of (Err Stray) = 1

-- what a part makes of the receipt of a turn: its number is new, or one that the part has seen
abbrev pub Heard : PartShown → Noted → PartShown → Result Noted Lapse → Type 0
Heard p r p' (Ok s) = (s ≡ r) × (p.seen < r.number) × (p' ≡ record p { seen = r.number })
Heard p r p' (Err (Behind seen found)) = (seen ≡ p.seen) × (found ≡ r.number) × (found ≤ seen) × (p' ≡ p)
Heard p r p' (Err Stray) = ⊥

-- a step was taken only if the event was owed
abbrev pub IsOwedOr : HallShown → Event → Result Noted Lapse → Type 0
IsOwedOr h e (Ok r) = is_owed h.world e ≡ true
IsOwedOr h e (Err (Behind seen found)) = is_owed h.world e ≡ true
IsOwedOr h e (Err Stray) = Unit {0}

-- so many EDQUOTs, and one more where an answer is one: at most the greatest u64
abbrev pub counted : Answer → ℕ → ℕ
counted (Refused errno.Edquot) n = min (n + 1) (2 ^ 64 - 1)
counted _ n = n

-- how much there is: the keys and constructions of the world, and the EDQUOTs
abbrev pub counts_of : LockedShown → Counts
counts_of k = record { keys = map.len k.hall.world.keys; constructions = constructions k.hall.world; edquots = k.edquots }
