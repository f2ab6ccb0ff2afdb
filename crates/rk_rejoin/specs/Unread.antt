-- Why files are no record.
use Rattle.std.specs.Prelude.{◌≡◌, ◌≢◌, ◌⊎◌, ℕ, List, [], ◌∷◌, ◌++◌, Ok, Err}
use Rattle.rk_volumes.specs.declared.fault.Fault.TheVariants as volume
use Rattle.rk_volumes.specs.declared.stored.Stored.{Stored}
use Rattle.rk_volumes.specs.Filed.{IsUnfiled}
use Rattle.rk_rejoin.specs.declared.disk.ReadFault.TheVariants as file
use Rattle.rk_rejoin.specs.declared.files_fault.FilesFault.{FilesFault}
use Rattle.rk_rejoin.specs.declared.files_fault.FilesFault.TheVariants.{Unreadable, NoVolume, NoRecord, NoMemory}
use Rattle.rk_rejoin.specs.Disk.{Reading}
use Rattle.rk_rejoin.specs.Read.{AreOfFiles, AreRead}
use Rattle.rk_rejoin.specs.Refused.{IsRefusedFor}

-- what was read is no volume, for this fault, which names its file. If memory ran out, no more is known than that the file was not refused as unreadable
abbrev pub IsNoVolumeIn : Reading → FilesFault → Type 0
IsNoVolumeIn reading (Unreadable path) = (path.now ≡ reading.path) × (reading.outcome ≡ Err file.Unreadable)
IsNoVolumeIn reading (NoVolume path fault) = (path.now ≡ reading.path)
    × ((bytes : List ℕ) × (reading.outcome ≡ Ok bytes) × IsUnfiled bytes fault × (fault ≢ volume.NoMemory))
IsNoVolumeIn reading NoMemory = reading.outcome ≢ Err file.Unreadable
IsNoVolumeIn reading (NoRecord verdict) = ⊥

-- the first of the files were read and are volumes, then the next one was read and is none, for this fault, and nothing was read after it
pub record StopsAt (files : List (List ℕ)) (f : FilesFault) (readings : List Reading) : Type 0 where
  pub before : List (List ℕ)
  pub after : List (List ℕ)
  pub volumes : List Stored
  pub had : List Reading
  pub last : Reading
  pub place : files ≡ before ++ (last.path ∷ after)
  pub read : AreRead before volumes had
  pub all : readings ≡ had ++ last ∷ []
  pub fault : IsNoVolumeIn last f

-- the first of the files were read and are volumes, and then memory ran out
pub record RunsOut (files : List (List ℕ)) (f : FilesFault) (readings : List Reading) : Type 0 where
  pub before : List (List ℕ)
  pub after : List (List ℕ)
  pub volumes : List Stored
  pub place : files ≡ before ++ after
  pub read : AreRead before volumes readings
  pub memory : f ≡ NoMemory

-- why not all of the files are volumes that were read
abbrev pub AreUnread : List (List ℕ) → FilesFault → List Reading → Type 0
AreUnread files f readings = StopsAt files f readings ⊎ RunsOut files f readings

-- the readings are of these files, and each of them is a volume; together they are no record, for this fault
abbrev pub AreNoRecord : List (List ℕ) → FilesFault → List Reading → Type 0
AreNoRecord files (NoRecord verdict) readings = (vs : List Stored) × AreOfFiles files vs readings × IsRefusedFor vs verdict
AreNoRecord files _ readings = ⊥

-- why files are no record
abbrev pub AreRefused : List (List ℕ) → FilesFault → List Reading → Type 0
AreRefused files f readings = AreUnread files f readings ⊎ AreNoRecord files f readings
