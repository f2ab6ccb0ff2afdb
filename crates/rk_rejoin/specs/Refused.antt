-- Why volumes that were read are no record.
use Rattle.std.specs.Prelude.{◌≡◌, ◌≢◌, ◌⊎◌, ℕ, ◌+◌, ◌<◌, ◌≤◌, List, [], ◌∷◌, ◌++◌, length, slice_get, Bool, true, false, Option, Some, None}
use Rattle.std.specs.List.{flat_map}
use Rattle.rk_machine.specs.World.{empty_world}
use Rattle.rk_record.specs.declared.hall_no.HallNo.{HallNo}
use Rattle.rk_record.specs.HallNumbers.{hall_number}
use Rattle.rk_record.specs.Volumes.{IsBrokenAt}
use Rattle.rk_hall.specs.Locked.{first_serial}
use Rattle.rk_volumes.specs.declared.head.Head.{Head}
use Rattle.rk_volumes.specs.declared.stored.Stored.{Stored}
use Rattle.rk_rejoin.specs.declared.verdict.Verdict.{Verdict}
use Rattle.rk_rejoin.specs.declared.verdict.Verdict.TheVariants.{Nothing, OtherNegative, OtherRun, Uncounted, Twice, Missing, Apart, Unchained, Closed, Broken, Unclosed, NoMemory}
use Rattle.rk_volumes.specs.declared.seal.Sealed.{Sealed}
use Rattle.rk_rejoin.specs.Chains.{no_sum, run_of, run_of_first, last_link, is_closed, AreChained}
use Rattle.rk_rejoin.specs.Judged.{steps_of, of_hall, joined, negative_of, AreNext}

-- there is no volume, or this one has other seconds for negative keys than the first one
abbrev pub HasNoCommon : List Stored → Verdict → Type 0
HasNoCommon vs Nothing = vs ≡ []
HasNoCommon vs (OtherNegative hall index) = (place : ℕ) × (v : Stored) × (slice_get vs place ≡ Some v) × (hall ≡ hall_number v.head.hall)
    × (index ≡ v.head.index) × (v.head.negative ≢ negative_of vs)
HasNoCommon vs _ = ⊥

-- this volume is of another run than the first one
abbrev pub HasOtherRun : List Stored → Verdict → Type 0
HasOtherRun vs (OtherRun hall index) = (place : ℕ) × (v : Stored) × (slice_get vs place ≡ Some v) × (hall ≡ hall_number v.head.hall)
    × (index ≡ v.head.index) × (run_of v ≢ run_of_first vs)
HasOtherRun vs _ = ⊥

-- the head is not that of the volume which follows on so many volumes with so many steps
abbrev pub IsNoNext : Head → ℕ → ℕ → Verdict → Type 0
IsNoNext h volumes before (Uncounted hall) = (hall ≡ hall_number h.hall) × (h.index ≡ 0)
IsNoNext h volumes before (Twice hall index) = (hall ≡ hall_number h.hall) × (index ≡ h.index) × (1 ≤ index) × (index ≤ volumes)
IsNoNext h volumes before (Missing hall index) = (hall ≡ hall_number h.hall) × (index ≡ volumes + 1) × (index < h.index)
IsNoNext h volumes before (Apart hall index) = (hall ≡ hall_number h.hall) × (index ≡ h.index) × (index ≡ volumes + 1) × (h.before ≢ before)
IsNoNext h volumes before _ = ⊥

-- the volume is one of the hall, and these are the ones before it there
abbrev pub StandsBehind : HallNo → List Stored → List Stored → Stored → Type 0
StandsBehind h vs first v = (more : List Stored) × (of_hall h vs ≡ first ++ (v ∷ more))

-- memory ran out, or a volume does not follow on those before it, which follow one another
abbrev pub CannotJoin : HallNo → List Stored → Verdict → Type 0
CannotJoin h vs f = (f ≡ NoMemory) ⊎ ((first : List Stored) × (v : Stored) × StandsBehind h vs first v × AreNext 0 0 first
    × IsNoNext v.head (length first) (length (flat_map steps_of first)) f)

-- the seal names another sum than that of the volume before it
abbrev pub NamesAnother : Option (List ℕ) → Option Sealed → Type 0
NamesAnother (Some sum) (Some s) = s.seal.previous ≢ sum
NamesAnother _ _ = ⊥

-- the volume in a seal comes after one that closed the record
abbrev pub StandsBehindClosing : Option (List ℕ) → Option Sealed → Type 0
StandsBehindClosing None (Some s) = Unit {0}
StandsBehindClosing _ _ = ⊥

-- this verdict says of the volume what is so: another sum comes before it, or the record was closed
abbrev pub IsUntied : Option (List ℕ) → Stored → Verdict → Type 0
IsUntied link v (Unchained hall index) = (hall ≡ hall_number v.head.hall) × (index ≡ v.head.index) × NamesAnother link v.seal
IsUntied link v (Closed hall index) = (hall ≡ hall_number v.head.hall) × (index ≡ v.head.index) × StandsBehindClosing link v.seal
IsUntied link v _ = ⊥

-- a volume of the hall does not say which one is before it, and those before it do
abbrev pub IsUnchained : HallNo → List Stored → Verdict → Type 0
IsUnchained h vs f = (first : List Stored) × (v : Stored) × StandsBehind h vs first v × AreChained (Some no_sum) first
    × IsUntied (last_link (Some no_sum) first) v f

-- the first of two halls is named, whose record is not closed, and the second one's is
abbrev pub IsOpenOf : HallNo × Bool → HallNo × Bool → Verdict → Type 0
IsOpenOf one other f = (f ≡ Unclosed (hall_number one.0)) × (one.1 ≡ false) × (other.1 ≡ true)

-- the record of the hall that is named is not closed, and that of another one is
abbrev pub IsOpenBeside : (HallNo → Bool) → Verdict → Type 0
IsOpenBeside closed f = (h : HallNo) × (other : HallNo) × IsOpenOf (h, closed h) (other, closed other) f

-- the step of this number in the hall is named, by its volume and its number there
abbrev pub NamesStep : HallNo → List Stored → ℕ → Verdict → Type 0
NamesStep h vs number (Broken hall index step) = (first : List Stored) × (v : Stored) × StandsBehind h vs first v × (hall ≡ hall_number h)
    × (index ≡ v.head.index) × (1 ≤ step) × (step ≤ length (steps_of v)) × (number ≡ length (flat_map steps_of first) + step)
NamesStep h vs number _ = ⊥

-- the volumes follow one another, and at the step that is named the machine, led by those before it, answers otherwise
abbrev pub IsBroken : ℕ → HallNo → List Stored → Verdict → Type 0
IsBroken negative h vs f = AreNext 0 0 (of_hall h vs)
    × ((place : ℕ) × IsBrokenAt (empty_world negative (first_serial h) 4) (joined h vs) place × NamesStep h vs (place + 1) f)

-- why the volumes of a hall are refused
abbrev pub IsHallRefused : ℕ → HallNo → List Stored → Verdict → Type 0
IsHallRefused negative h vs f = CannotJoin h vs f ⊎ (IsUnchained h vs f ⊎ IsBroken negative h vs f)

-- why volumes are refused: for all of them, or for those of one hall, or since one hall's are not closed and another's are
abbrev pub IsRefusedFor : List Stored → Verdict → Type 0
IsRefusedFor vs f = HasNoCommon vs f ⊎ (HasOtherRun vs f ⊎ (((h : HallNo) × IsHallRefused (negative_of vs) h vs f)
    ⊎ IsOpenBeside (λ h. is_closed (of_hall h vs)) f))
