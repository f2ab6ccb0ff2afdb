-- The volumes of files that were read.
use Rattle.std.specs.Prelude.{◌≡◌, ℕ, List, map, Ok}
use Rattle.std.specs.List.{AllZip}
use Rattle.std.specs.List.Sorted.{IsPermutation, IsSortedByKey}
use Rattle.std.specs.Ordering.{nat_cmp, ordering_then}
use Rattle.std.specs.declared.cmp.Ordering.{Ordering}
use Rattle.rk_record.specs.HallNumbers.{hall_number}
use Rattle.rk_volumes.specs.declared.stored.Stored.{Stored}
use Rattle.rk_volumes.specs.Filed.{IsFiled}
use Rattle.rk_rejoin.specs.Disk.{Reading}

-- what was read are bytes, and these are the volume
abbrev pub IsVolumeIn : Reading → Stored → Type 0
IsVolumeIn reading v = (bytes : List ℕ) × (reading.outcome ≡ Ok bytes) × IsFiled v.head v.steps.items v.seal bytes

-- the readings are of these files, of each one and in their order, and each has the volume in its place
pub record AreRead (files : List (List ℕ)) (vs : List Stored) (readings : List Reading) : Type 0 where
  pub paths : map (λ reading. reading.path) readings ≡ files
  pub volumes : AllZip IsVolumeIn readings vs

-- where a volume stands among others: its hall, and its index there
abbrev pub rank_of : Stored → ℕ × ℕ
rank_of v = (hall_number v.head.hall, v.head.index)

-- the hall comes first, and then the index
abbrev pub rank_cmp : ℕ × ℕ → ℕ × ℕ → Ordering
rank_cmp x y = ordering_then (nat_cmp x.0 y.0) (nat_cmp x.1 y.1)

-- the same, with the volumes by rising hall, and in each hall by rising index
abbrev pub AreOfFiles : List (List ℕ) → List Stored → List Reading → Type 0
AreOfFiles files vs readings = (read : List Stored) × AreRead files read readings × IsPermutation read vs × IsSortedByKey rank_of rank_cmp vs
