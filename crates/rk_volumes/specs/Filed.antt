-- A volume as a file has it: in its seal, or, of version 1, with nothing around it.
use Rattle.std.specs.Prelude.{◌≡◌, ◌⊎◌, ℕ, ◌++◌, List, Option, Some, None}
use Rattle.std.specs.Io.KnownBytes.{Appends}
use Rattle.sha2.specs.Sha256.{sha256}
use Rattle.rk_record.specs.declared.recorded.Recorded.{Recorded}
use Rattle.rk_volumes.specs.declared.head.Head.{Head}
use Rattle.rk_volumes.specs.declared.fault.Fault.{Fault}
use Rattle.rk_volumes.specs.declared.fault.Fault.TheVariants as fault
use Rattle.rk_volumes.specs.declared.seal.Seal.{Seal}
use Rattle.rk_volumes.specs.declared.seal.Sealed.{Sealed}
use Rattle.rk_volumes.specs.Format.{IsStored, IsFaultOf}
use Rattle.rk_volumes.specs.Seals.{summed, IsSeal, BeginsSealed, HasNoSum}

-- the file is the volume with nothing around it; or the line, the seal, the volume, and the sum of these
abbrev pub IsFiled : Head → List Recorded → Option Sealed → List ℕ → Type 0
IsFiled h steps None file = IsStored h steps file
IsFiled h steps (Some s) file = (volume : List ℕ) × IsStored h steps volume × IsSeal s.seal × (s.sum ≡ sha256 (summed s.seal volume))
    × (file ≡ summed s.seal volume ++ s.sum)

-- why there is no volume in a front: no line and seal, or it is none that stands after them
abbrev pub IsFaultIn : List ℕ → Fault → Type 0
IsFaultIn front f = ((f ≡ fault.Head) × ((s : Seal) (volume : List ℕ) → IsSeal s → front ≡ summed s volume → ⊥))
    ⊎ ((s : Seal) × (volume : List ℕ) × IsSeal s × (front ≡ summed s volume) × IsFaultOf volume f)

-- why a file is none of a record: it has no seal and is no volume; or it should have one, and the sum is another, or what has its sum is none
abbrev pub IsUnfiled : List ℕ → Fault → Type 0
IsUnfiled file f = ((BeginsSealed file → ⊥) × IsFaultOf file f)
    ⊎ (BeginsSealed file × (((f ≡ fault.Sum) × HasNoSum file) ⊎ ((front : List ℕ) × (file ≡ front ++ sha256 front) × IsFaultIn front f)))

-- a volume was written in a seal with a sum, after what was written before
abbrev pub HasFiled : Head → List Recorded → Seal → List ℕ → Option (List ℕ) → Option (List ℕ) → Type 0
HasFiled h steps seal sum contents contents' = (file : List ℕ) × IsFiled h steps (Some (record { seal = seal; sum = sum })) file
    × Appends contents contents' file
