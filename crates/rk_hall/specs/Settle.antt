-- What seats and receipts say of four records.
use Rattle.std.specs.Prelude.{◌≡◌, ◌≢◌, ◌⊎◌, ℕ, ◌+◌, ◌<◌, ◌≤◌, List, slice_get, length, Some, Result, Ok, Err}
use Rattle.rk_record.specs.declared.hall_no.HallNo.{HallNo}
use Rattle.rk_record.specs.declared.hall_no.HallNo.TheVariants.{Zero, One, Two, Three}
use Rattle.rk_record.specs.declared.recorded.Recorded.{Recorded}
use Rattle.rk_record.specs.HallNumbers.{hall_number}
use Rattle.rk_record.specs.Record.{HallShown, IsRecord}
use Rattle.rk_record.specs.Turns.{Noted, IsStepOf}
use Rattle.rk_record.specs.Volumes.{VolumeShown}
use Rattle.rk_hall.specs.declared.settling.Total.{Total}
use Rattle.rk_hall.specs.declared.settling.SettleFault.{SettleFault}
use Rattle.rk_hall.specs.declared.settling.SettleFault.TheVariants.{Uneven, Missing, Forged}
use Rattle.rk_hall.specs.Seats.{SeatShown}
use Rattle.rk_hall.specs.Locked.{taken}
use Rattle.rk_hall.specs.Closed.{ClosedShown, FourShown, closed_of, turns_of}

-- ---- receipts

-- the step that has the receipt's number, among steps that come after so many others, is what the receipt says
pub record StandsIn (before : ℕ) (steps : List Recorded) (r : Noted) : Type 0 where
  pub place : ℕ
  pub step : Recorded
  pub found : slice_get steps place ≡ Some step
  pub number : r.number ≡ before + place + 1
  pub says : IsStepOf r step

-- the volume was handed in, and is the one that the receipt names
pub record IsHandedIn (volumes : List VolumeShown) (r : Noted) (v : VolumeShown) : Type 0 where
  pub place : ℕ
  pub found : slice_get volumes place ≡ Some v
  pub hall : v.hall ≡ r.hall
  pub index : v.index ≡ r.volume

-- the volume that the receipt names is the one that the hall records, or was handed in
abbrev pub HasVolume : HallShown → List VolumeShown → Noted → Type 0
HasVolume h volumes r = (r.volume ≡ h.index) ⊎ ((v : VolumeShown) × IsHandedIn volumes r v)

-- the receipt stands in the volume that it names
abbrev pub Stands : HallShown → List VolumeShown → Noted → Type 0
Stands h volumes r =
    ((r.volume ≡ h.index) × StandsIn h.before h.steps r)
    ⊎ ((v : VolumeShown) × IsHandedIn volumes r v × StandsIn v.before v.steps r)

-- the receipt at this place is numbered above those of its hall that come before it
abbrev pub Rises : List Noted → ℕ → Noted → Type 0
Rises receipts place r = (k : ℕ) (s : Noted) → k < place → slice_get receipts k ≡ Some s → s.hall ≡ r.hall → s.number < r.number

-- the receipt at this place is genuine: it rises above those before it, and stands in its volume
pub record IsGenuine (h : HallShown) (volumes : List VolumeShown) (receipts : List Noted) (place : ℕ) (r : Noted) : Type 0 where
  pub rises : Rises receipts place r
  pub stands : Stands h volumes r

-- all receipts of the hall before this place are genuine
abbrev pub AreGenuine : HallShown → List VolumeShown → List Noted → ℕ → Type 0
AreGenuine h volumes receipts place =
    (k : ℕ) (s : Noted) → k < place → slice_get receipts k ≡ Some s → s.hall ≡ h.no → IsGenuine h volumes receipts k s

-- the first receipt of the hall that is not genuine
pub record FirstAtFault (h : HallShown) (volumes : List VolumeShown) (receipts : List Noted) (r : Noted) : Type 0 where
  pub place : ℕ
  pub found : slice_get receipts place ≡ Some r
  pub hall : r.hall ≡ h.no
  pub first : AreGenuine h volumes receipts place
  pub fault : IsGenuine h volumes receipts place r → ⊥

-- what is said of it: that its volume is missing, or else its number
abbrev pub IsFaultOf : HallShown → List VolumeShown → Noted → SettleFault → Type 0
IsFaultOf h volumes r (Missing hall volume) = (hall ≡ r.hall) × (volume ≡ r.volume) × (HasVolume h volumes r → ⊥)
IsFaultOf h volumes r (Forged hall number) = (hall ≡ r.hall) × (number ≡ r.number) × HasVolume h volumes r
IsFaultOf h volumes r (Uneven steps held) = ⊥

-- the fault of a hall's receipts
abbrev pub HasFault : HallShown → List VolumeShown → List Noted → SettleFault → Type 0
HasFault h volumes receipts fault = (r : Noted) × FirstAtFault h volumes receipts r × IsFaultOf h volumes r fault

-- ---- the four halls

-- a sum over the four halls
abbrev pub in_all : (ClosedShown → ℕ) → FourShown → ℕ
in_all f k = f k.zero + f k.one + f k.two + f k.three

-- the sums of the four records
abbrev pub total_of : FourShown → Total
total_of k = record {
  steps = in_all (λ c. taken c.hall) k;
  live = in_all (λ c. c.live) k;
  retired = in_all (λ c. c.retired) k;
  strays = in_all (λ c. c.strays) k;
}

-- all receipts of the halls below this number are genuine
abbrev pub AreGenuineBelow : FourShown → List VolumeShown → List Noted → ℕ → Type 0
AreGenuineBelow k volumes receipts n =
    (hall : HallNo) → hall_number hall < n → AreGenuine (closed_of hall k).hall volumes receipts (length receipts)

-- the fault of the first hall that has one
abbrev pub HasFirstFault : FourShown → List VolumeShown → List Noted → SettleFault → Type 0
HasFirstFault k volumes receipts fault =
    (hall : HallNo) × AreGenuineBelow k volumes receipts (hall_number hall) × HasFault (closed_of hall k).hall volumes receipts fault

-- the turns of all seats make up the steps
abbrev pub IsEven : Total → Type 0
IsEven t = t.steps ≡ t.live + t.retired

-- what a settlement answers: that steps and turns differ; or else the first fault of a receipt; or else the sums
abbrev pub Settles : FourShown → List VolumeShown → List Noted → Result Total SettleFault → Type 0
Settles k volumes receipts (Ok t) = (t ≡ total_of k) × IsEven t × AreGenuineBelow k volumes receipts 4
Settles k volumes receipts (Err (Uneven steps held)) =
    (steps ≡ (total_of k).steps) × (held ≡ (total_of k).live + (total_of k).retired) × (steps ≢ held)
Settles k volumes receipts (Err (Missing hall volume)) = IsEven (total_of k) × HasFirstFault k volumes receipts (Missing hall volume)
Settles k volumes receipts (Err (Forged hall number)) = IsEven (total_of k) × HasFirstFault k volumes receipts (Forged hall number)

-- each has its number, and a sound record
pub record AreSound (k : FourShown) : Type 0 where
  pub numbers : (hall : HallNo) → (closed_of hall k).hall.no ≡ hall
  pub records : (hall : HallNo) → IsRecord (closed_of hall k).hall

-- there are four such halls, in which these seats made the turns that are live, and this is their settlement
pub record SettlesSome (volumes : List VolumeShown) (seats : List SeatShown) (receipts : List Noted) (result : Result Total SettleFault) : Type 0 where
  pub halls : FourShown
  pub sound : AreSound halls
  pub turns : (hall : HallNo) → (closed_of hall halls).live ≡ turns_of hall seats
  pub settles : Settles halls volumes receipts result

-- ---- what is said of seats, volumes and receipts, whatever the halls are

-- the turns of these seats, in all halls
abbrev pub all_turns : List SeatShown → ℕ
all_turns seats = turns_of Zero seats + turns_of One seats + turns_of Two seats + turns_of Three seats

-- the receipt stands in a volume that was handed in
abbrev pub StandsInOne : List VolumeShown → Noted → Type 0
StandsInOne volumes r = (v : VolumeShown) × IsHandedIn volumes r v × StandsIn v.before v.steps r

-- all adds up: the live turns are those of the seats, with the retired ones they are all steps, and no receipt is at fault
pub record AddsUp (volumes : List VolumeShown) (seats : List SeatShown) (receipts : List Noted) (total : Total) : Type 0 where
  pub even : IsEven total
  pub live : total.live ≡ all_turns seats
  pub rise : (k : ℕ) (r : Noted) → slice_get receipts k ≡ Some r → Rises receipts k r
  -- the volumes that the halls were recording. A receipt of any other stands in one that was handed in
  pub index : HallNo → ℕ
  pub stand : (k : ℕ) (r : Noted) → slice_get receipts k ≡ Some r → (r.volume ≡ index r.hall) ⊎ StandsInOne volumes r

-- the receipt at this place may be the first at fault: those of the halls below its own rise, and those of its hall before it
pub record IsNamed (receipts : List Noted) (hall : HallNo) (place : ℕ) (r : Noted) : Type 0 where
  pub found : slice_get receipts place ≡ Some r
  pub of_hall : r.hall ≡ hall
  pub below : (k : ℕ) (s : Noted) → slice_get receipts k ≡ Some s → hall_number s.hall < hall_number hall → Rises receipts k s
  pub before : (k : ℕ) (s : Noted) → k < place → slice_get receipts k ≡ Some s → s.hall ≡ hall → Rises receipts k s

-- what a settlement says of them. All adds up; or the steps are not the turns, of which these seats made no more than are held; or a receipt is named,
-- whose volume was not handed in, or which does not rise or stands in no volume that was
abbrev pub Says : List VolumeShown → List SeatShown → List Noted → Result Total SettleFault → Type 0
Says volumes seats receipts (Ok total) = AddsUp volumes seats receipts total
Says volumes seats receipts (Err (Uneven steps held)) = (steps ≢ held) × (all_turns seats ≤ held)
Says volumes seats receipts (Err (Missing hall volume)) =
    (place : ℕ) × (r : Noted) × IsNamed receipts hall place r × (r.volume ≡ volume) × ((v : VolumeShown) × IsHandedIn volumes r v → ⊥)
Says volumes seats receipts (Err (Forged hall number)) =
    (place : ℕ) × (r : Noted) × IsNamed receipts hall place r × (r.number ≡ number) × (Rises receipts place r → StandsInOne volumes r → ⊥)
