-- What is judged of volumes that were read.
use Rattle.std.specs.Prelude.{◌≡◌, ℕ, ◌+◌, ◌==◌, List, [], ◌∷◌, filter, length, Some}
use Rattle.std.specs.List.{flat_map}
use Rattle.rk_machine.specs.World.{World}
use Rattle.rk_machine.specs.Steps.{Beginning}
use Rattle.rk_machine.specs.Laws.{ContinuesTo}
use Rattle.rk_record.specs.declared.hall_no.HallNo.{HallNo}
use Rattle.rk_record.specs.declared.hall_no.HallNo.TheVariants as hall
use Rattle.rk_record.specs.declared.recorded.Recorded.{Recorded}
use Rattle.rk_record.specs.HallNumbers.{hall_number}
use Rattle.rk_record.specs.Record.{past_of}
use Rattle.rk_record.specs.Volumes.{counted}
use Rattle.rk_hall.specs.Locked.{first_serial}
use Rattle.rk_volumes.specs.declared.stored.Stored.{Stored}
use Rattle.rk_rejoin.specs.declared.part.Part.{Part}
use Rattle.rk_rejoin.specs.declared.part.Total.{Total}
use Rattle.rk_rejoin.specs.Chains.{no_sum, is_closed, AreChained}

-- the steps of a volume
abbrev pub steps_of : Stored → List Recorded
steps_of v = v.steps.items

-- the volumes of a hall, in the order in which they stand
abbrev pub of_hall : HallNo → List Stored → List Stored
of_hall h vs = filter (λ v. hall_number v.head.hall == hall_number h) vs

-- the steps of a hall, all volumes joined
abbrev pub joined : HallNo → List Stored → List Recorded
joined h vs = flat_map steps_of (of_hall h vs)

-- after so many volumes with so many steps, each volume has the next index, and as many steps before it as there are
unfoldable pub AreNext : ℕ → ℕ → List Stored → Type 0
AreNext index before [] = Unit {0}
AreNext index before (v ∷ vs) = (v.head.index ≡ index + 1) × (v.head.before ≡ before) × AreNext (index + 1) (before + length (steps_of v)) vs

-- what a hall begins with
abbrev pub beginning : ℕ → HallNo → Beginning
beginning negative h = record { negative = negative; first = first_serial h; stride = 4 }

-- the volumes of a hall are its record from the first step on, each says which one is before it, and their steps are a run of the machine that obeys
-- the laws
pub record IsRecordOf (negative : ℕ) (vs : List Stored) (h : HallNo) (part : Part) : Type 0 where
  pub next : AreNext 0 0 (of_hall h vs)
  pub chained : AreChained (Some no_sum) (of_hall h vs)
  pub volumes : part.volumes ≡ length (of_hall h vs)
  pub steps : part.steps ≡ counted (length (joined h vs))
  pub closed : part.closed ≡ is_closed (of_hall h vs)
  pub world : World
  pub run : ContinuesTo (beginning negative h) (past_of (joined h vs) []) world

-- the seconds of a negative key that the first volume has
abbrev pub negative_of : List Stored → ℕ
negative_of [] = 0
negative_of (v ∷ vs) = v.head.negative

-- of a hall's record
abbrev pub part_of : Total → HallNo → Part
part_of t hall.Zero = t.zero
part_of t hall.One = t.one
part_of t hall.Two = t.two
part_of t hall.Three = t.three

-- the records of all halls are closed, or none is
abbrev pub AreClosedAlike : Total → Type 0
AreClosedAlike t = (t.zero.closed ≡ t.one.closed) × (t.one.closed ≡ t.two.closed) × (t.two.closed ≡ t.three.closed)
