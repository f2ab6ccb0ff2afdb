-- What files are that are a record.
use Rattle.std.specs.Prelude.{◌≡◌, ℕ, List}
use Rattle.std.specs.List.{AllByRecursion}
use Rattle.rk_record.specs.declared.hall_no.HallNo.{HallNo}
use Rattle.rk_volumes.specs.declared.stored.Stored.{Stored}
use Rattle.rk_rejoin.specs.declared.part.Total.{Total}
use Rattle.rk_rejoin.specs.Chains.{run_of, run_of_first}
use Rattle.rk_rejoin.specs.Disk.{Reading}
use Rattle.rk_rejoin.specs.Judged.{AreClosedAlike, IsRecordOf, negative_of, part_of}
use Rattle.rk_rejoin.specs.Read.{AreOfFiles}

-- the readings are of these files, each of them is a volume, all are of one run, and they are so much of each hall's record: from the empty world on a run
-- of the machine, which obeys its laws. Either the records of all halls are closed, or none is
pub record AreRejoined (files : List (List ℕ)) (total : Total) (readings : List Reading) : Type 0 where
  pub volumes : List Stored
  pub read : AreOfFiles files volumes readings
  pub negative : AllByRecursion (λ v. v.head.negative ≡ negative_of volumes) volumes
  pub run : AllByRecursion (λ v. run_of v ≡ run_of_first volumes) volumes
  pub halls : (h : HallNo) → IsRecordOf (negative_of volumes) volumes h (part_of total h)
  pub closed : AreClosedAlike total
