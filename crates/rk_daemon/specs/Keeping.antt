-- How a volume becomes a file in the folder of a record.
use Rattle.std.specs.Prelude.{ℕ, ◌-◌, ◌^◌, Bool, true, false, ◌||◌, nat_eq, List, [], ◌∷◌, ◌++◌, Option, None, Some, codes, decimal}
use Rattle.std.specs.List.{starts_with}
use Rattle.std.specs.Fmt.{format_spec, padded_integral}
use Rattle.rk_record.specs.HallNumbers.{hall_number}
use Rattle.rk_record.specs.declared.recorded.Recorded.{Recorded}
use Rattle.rk_volumes.specs.declared.head.Head.{Head}
use Rattle.rk_volumes.specs.declared.seal.Seal.{Seal}
use Rattle.rk_volumes.specs.Filed.{HasFiled}
use Rattle.rk_daemon.specs.Folder.{Act, Created, Flushed, Linked, Removed}

-- a number with at least six digits
abbrev pub six_digits : ℕ → List ℕ
six_digits n = padded_integral (format_spec 32 0 4 6 (2 ^ 64 - 1)) false [] (decimal n)

-- which volume it is, as the names of files say it
abbrev pub volume_name : Head → List ℕ
volume_name h = decimal (hall_number h.hall) ++ codes "-volume-" ++ six_digits h.index

-- the name of a file begins as those of volumes, or as those of their parts
abbrev pub is_of_record : List ℕ → Bool
is_of_record name = starts_with nat_eq name (codes "hall-") || starts_with nat_eq name (codes ".hall-")

-- the path of a volume, and that of its part
abbrev pub volume_path : List ℕ → Head → List ℕ
volume_path folder h = folder ++ codes "/hall-" ++ volume_name h

-- the path at which a volume is written before it has its name
abbrev pub part_path : List ℕ → Head → List ℕ
part_path folder h = folder ++ codes "/.hall-" ++ volume_name h ++ codes ".part"

-- the volume in its seal is written into a new file, which had this at first, and all of it is handed to the system; or something fails; the sum, if not
pub data Fills (h : Head) (steps : List Recorded) (seal : Seal) (begun : Option (List ℕ)) : Option (List ℕ) → List Act → Type 0 where
  unwritten : Fills h steps seal begun None []
  unflushed : (ended : Option (List ℕ)) → Fills h steps seal begun None (Flushed ended false ∷ [])
  filled : (ended : Option (List ℕ)) (sum : List ℕ) → HasFiled h steps seal sum begun ended
      → Fills h steps seal begun (Some sum) (Flushed ended true ∷ [])

-- the file that was filled so, or was not, gets the path of the volume; the sum, if it has that path
pub data Names (part path : List ℕ) : Option (List ℕ) → Option (List ℕ) → List Act → Type 0 where
  unfilled : Names part path None None []
  unnamed : (sum : List ℕ) → Names part path (Some sum) None (Linked part path false ∷ [])
  named : (sum : List ℕ) → Names part path (Some sum) (Some sum) (Linked part path true ∷ [])

-- a volume is kept: a new file is made at the path of its part, filled and named, and the path of the part is removed, whatever comes of that. Nothing is
-- done if there is no memory for paths, and nothing else if the file can't be made; the sum, if the volume has its path
pub data Keeps (folder : List ℕ) (h : Head) (steps : List Recorded) (seal : Seal) : Option (List ℕ) → List Act → Type 0 where
  crowded : Keeps folder h steps seal None []
  refused : Keeps folder h steps seal None (Created (part_path folder h) None ∷ [])
  kept : (begun filled sum : Option (List ℕ)) (acts more : List Act) (is_gone : Bool) → Fills h steps seal begun filled acts
      → Names (part_path folder h) (volume_path folder h) filled sum more
      → Keeps folder h steps seal sum (Created (part_path folder h) (Some begun) ∷ acts ++ more ++ Removed (part_path folder h) is_gone ∷ [])
