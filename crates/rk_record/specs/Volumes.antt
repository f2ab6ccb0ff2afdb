-- Volumes of a record, and what is left when one is handed out.
use Rattle.std.specs.Prelude.{◌≡◌, ◌≢◌, ◌⊎◌, ℕ, ◌+◌, ◌≤◌, min, List, [], length, take, slice_get, Some, refl}
use Rattle.std.specs.Coded.{Coded, code_by, coded×, coded_ℕ, coded_list}
use Rattle.rk_machine.specs.World.{World, world_code}
use Rattle.rk_machine.specs.Steps.{Step}
use Rattle.rk_machine.specs.Owing.{owed}
use Rattle.rk_names.specs.declared.errors.Errno.TheVariants as errno
use Rattle.rk_machine.specs.declared.event.Answer.{Answer}
use Rattle.rk_machine.specs.declared.event.Answer.TheVariants.{Refused}
use Rattle.rk_record.specs.declared.hall_no.HallNo.{HallNo}
use Rattle.rk_record.specs.contracts.hall_no.HallNo as hall_no
use Rattle.rk_record.specs.declared.recorded.Recorded.{Recorded}
use Rattle.rk_record.specs.contracts.recorded.Recorded as recorded
use Rattle.rk_record.specs.Record.{HallShown, Runs, IsReached, places_after}
use Rattle.rk_record.specs.declared.rejoin_fault.Rejoin.{Rejoin}
use Rattle.rk_record.specs.declared.rejoin_fault.Rejoin.TheVariants.{Broken, NoMemory}

-- what is seen of a volume that was handed out
pub record VolumeShown : Type 0 where
  pub hall : HallNo
  pub index : ℕ  -- which volume of the hall it is, from 1
  pub before : ℕ  -- how many steps the volumes before it have
  pub opening : World
  pub closing : World
  pub steps : List Recorded

-- a volume as its six parts in a row, the form in which a model of a struct sees it
abbrev pub volume_code : Coded VolumeShown
volume_code =
    code_by (HallNo × (ℕ × (ℕ × (World × (World × List Recorded)))))
    (coded× hall_no.the_row.coded (coded× coded_ℕ (coded× coded_ℕ (coded× world_code (coded× world_code (coded_list recorded.the_row.coded))))))
    (λ v. (v.hall, (v.index, (v.before, (v.opening, (v.closing, v.steps))))))
    (λ p. record { hall = p.0; index = p.1.0; before = p.1.1.0; opening = p.1.1.1.0; closing = p.1.1.1.1.0; steps = p.1.1.1.1.1 }) (λ _. refl)

-- what a volume keeps: a run of as many steps as the volumes before it have leads to where it opened, and its steps lead on to where it closed
pub record IsVolume (before : ℕ) (opening : World) (steps : List Recorded) (closing : World) : Type 0 where
  pub opened : IsReached before opening
  pub runs : Runs opening steps closing

-- the volume that is handed out
abbrev pub volume_of : HallShown → VolumeShown
volume_of h = record { hall = h.no; index = h.index; before = h.before; opening = h.opening; closing = h.world; steps = h.steps }

-- what is left: the next volume is empty, and opens where this one closed
abbrev pub rolled : HallShown → HallShown
rolled h = record {
  no = h.no;
  opening = h.world;
  before = h.before + length h.steps;
  index = h.index + 1;
  limit = h.limit;
  places = places_after h.limit (h.before + length h.steps);
  world = h.world;
  steps = [];
}

-- why no volume can be begun: what is owed would fill it, or no index is left
abbrev pub CannotRoll : HallShown → Type 0
CannotRoll h = (places_after h.limit (h.before + length h.steps) ≤ owed h.world) ⊎ (h.index ≡ 18446744073709551615)

-- ---- volumes that are joined

-- a count as a u64 has it
abbrev pub counted : ℕ → ℕ
counted n = min n 18446744073709551615

-- the machine, led by the steps before it, answers the step at this place otherwise, and not by out of memory
pub record IsBrokenAt (from : World) (steps : List Recorded) (place : ℕ) : Type 0 where
  pub mid : World
  pub run : Runs from (take place steps) mid
  pub found : Recorded
  pub stands : slice_get steps place ≡ Some found
  pub answer : Answer
  pub after : World
  pub step : Step mid found.now found.event answer after
  pub other : answer ≢ found.answer
  pub memory : answer ≢ Refused errno.Enomem

-- why steps that come after so many others are no run
abbrev pub Breaks : World → ℕ → List Recorded → Rejoin → Type 0
Breaks from before steps (Broken number) = (place : ℕ) × (number ≡ counted (before + (place + 1))) × IsBrokenAt from steps place
Breaks from before steps NoMemory = Unit {0}
