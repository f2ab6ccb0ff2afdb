-- The format of a volume in a file. Numbers stand with their highest byte first.
use Rattle.std.specs.Prelude.{◌≡◌, ℕ, ◌+◌, ◌<◌, ◌^◌, List, [], ◌∷◌, ◌++◌, length, codes}
use Rattle.std.specs.List.{flat_map, AllByRecursion}
use Rattle.std.specs.Int.{w32, w64, to_be_bytes}
use Rattle.rk_frame.specs.Framing.{frame}
use Rattle.rk_record.specs.HallNumbers.{hall_number}
use Rattle.rk_record.specs.declared.recorded.Recorded.{Recorded}
use Rattle.rk_volumes.specs.declared.head.Head.{Head}
use Rattle.rk_volumes.specs.declared.fault.Fault.{Fault}
use Rattle.rk_volumes.specs.declared.fault.Fault.TheVariants as fault
use Rattle.rk_volumes.specs.Rows.{row_bytes, event_row, answer_row}
use Rattle.rk_volumes.specs.Rules.{IsStep, IsWord}

-- the line that a file begins with
abbrev pub title : List ℕ
title = codes "reqkeyd volume 1\n"

-- the hall, the seconds of a negative key, the index, how many steps the volumes before have, and how many this one has
abbrev pub head_bytes : Head → ℕ → List ℕ
head_bytes h count =
    hall_number h.hall ∷ (to_be_bytes w32 h.negative ++ (to_be_bytes w64 h.index ++ (to_be_bytes w64 h.before ++ to_be_bytes w64 count)))

-- a step: its moment, and its event and its answer as rows, each after its length
unfoldable pub step_bytes : Recorded → List ℕ
step_bytes s = to_be_bytes w64 s.now ++ (frame (row_bytes (event_row s.event)) ++ frame (row_bytes (answer_row s.answer)))

-- a volume: the line, the head, and the steps
abbrev pub file_bytes : Head → List Recorded → List ℕ
file_bytes h steps = title ++ (head_bytes h (length steps) ++ flat_map step_bytes steps)

-- the numbers of a head are numbers of their widths
pub record IsHead (h : Head) (n : ℕ) : Type 0 where
  pub negative : IsWord h.negative
  pub index : h.index < 2 ^ 64
  pub before : h.before < 2 ^ 64
  pub count : n < 2 ^ 64

-- the file is that volume
pub record IsStored (h : Head) (ss : List Recorded) (file : List ℕ) : Type 0 where
  pub head : IsHead h (length ss)
  pub steps : AllByRecursion IsStep ss
  pub bytes : file ≡ file_bytes h ss

-- no step stands at the front of the bytes
abbrev pub HasNoStep : List ℕ → Type 0
HasNoStep bytes = (s : Recorded) (more : List ℕ) → IsStep s → bytes ≡ step_bytes s ++ more → ⊥

-- the first of so many steps that is not at its place
abbrev pub IsMissing : List ℕ → ℕ → Fault → Type 0
IsMissing bytes count (fault.Step number) = (steps : List Recorded) × (left : List ℕ) × AllByRecursion IsStep steps
    × (bytes ≡ flat_map step_bytes steps ++ left) × (length steps < count) × HasNoStep left × (number ≡ length steps + 1)
IsMissing bytes count fault.NoMemory = Unit {0}
IsMissing bytes count _ = ⊥

-- why a file is no volume: another line, no head after it, a step that is not there, or bytes after the last one
abbrev pub IsFaultOf : List ℕ → Fault → Type 0
IsFaultOf file fault.Title = (more : List ℕ) → file ≡ title ++ more → ⊥
IsFaultOf file fault.Head = (more : List ℕ) × (file ≡ title ++ more)
    × ((h : Head) (count : ℕ) (left : List ℕ) → IsHead h count → more ≡ head_bytes h count ++ left → ⊥)
IsFaultOf file (fault.Step number) = (h : Head) × (count : ℕ) × (more : List ℕ) × IsHead h count
    × (file ≡ title ++ (head_bytes h count ++ more)) × IsMissing more count (fault.Step number)
IsFaultOf file fault.Trailing = (h : Head) × (steps : List Recorded) × (left : List ℕ) × IsHead h (length steps) × AllByRecursion IsStep steps
    × (file ≡ file_bytes h steps ++ left) × (0 < length left)
IsFaultOf file fault.NoMemory = Unit {0}
IsFaultOf file fault.Sum = ⊥

-- a volume at the front of a file is all of it, and no other
abbrev pub HaveOneReading : Type 0
HaveOneReading = (h g : Head) (steps others : List Recorded) (file other left : List ℕ) → IsStored h steps file → IsStored g others other
    → file ++ left ≡ other → (h ≡ g) × (steps ≡ others) × (left ≡ [])
