-- A volume in its seal, as bytes: what ties it to the others of its run, and the sum of all that.
use Rattle.std.specs.Prelude.{◌≡◌, ℕ, ◌++◌, Bool, true, false, List, ◌∷◌, length, codes}
use Rattle.sha2.specs.Sha256.{sha256}
use Rattle.rk_volumes.specs.declared.seal.Seal.{Seal}

-- the line that a volume in a seal begins with
abbrev pub sealed_title : List ℕ
sealed_title = codes "reqkeyd volume 2\n"

-- the mark of a volume that closes its hall's record, and of one that does not
abbrev pub mark : Bool → ℕ
mark true = 1
mark false = 0

-- the mark, the number of the run, and the sum of the volume before
abbrev pub seal_bytes : Seal → List ℕ
seal_bytes s = mark s.closing ∷ (s.run ++ s.previous)

-- what the sum is of: the line, the seal, and the volume
abbrev pub summed : Seal → List ℕ → List ℕ
summed s volume = sealed_title ++ (seal_bytes s ++ volume)

-- the parts of a seal have their lengths
pub record IsSeal (s : Seal) : Type 0 where
  pub run : length s.run ≡ 16
  pub previous : length s.previous ≡ 32

-- the file begins with the line of a volume in a seal
abbrev pub BeginsSealed : List ℕ → Type 0
BeginsSealed file = (more : List ℕ) × (file ≡ sealed_title ++ more)

-- the sum of no front of the file is all that stands after it
abbrev pub HasNoSum : List ℕ → Type 0
HasNoSum file = (front : List ℕ) → file ≡ front ++ sha256 front → ⊥
