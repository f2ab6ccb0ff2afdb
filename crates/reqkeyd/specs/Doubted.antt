-- What `check` doubts of a line.
use Rattle.std.specs.Prelude.{◌≡◌, ◌==◌, ℕ, bit_and, codes, List, Option, Some, None, option_map, if◌then◌else◌}
use Rattle.std.specs.List.{All, list_any}
use Rattle.rk_glob.specs.Wildcard.{Fits}
use Rattle.rk_conf.specs.declared.line.Line.{Line}
use Rattle.rk_preview.specs.declared.doubts.Doubt.{Doubt}
use Rattle.rk_preview.specs.declared.doubts.Doubt.TheVariants.{Operation, Hidden, Comment, Exposed, Writable}
use Rattle.rk_preview.specs.Doubts.{IsHiddenBy, begins_with_hash}
use Rattle.rk_preview.specs.Exposures.{exposed_in}

-- that no request has its operation, exactly if that is so
abbrev pub IsOperation : Line → Option Doubt → Type 0
IsOperation line (Some (Operation n)) = (n ≡ line.number) × (Fits line.op (codes "create") → ⊥) × (Fits line.op (codes "negate") → ⊥)
IsOperation line None = ((Fits line.op (codes "create") → ⊥) × (Fits line.op (codes "negate") → ⊥)) → ⊥
IsOperation line _ = ⊥

-- that an earlier line hides it, and which one does; or none does
abbrev pub IsHidden : List Line → Line → Option Doubt → Type 0
IsHidden before line (Some (Hidden n m)) = (n ≡ line.number) × ((earlier : Line) × (m ≡ earlier.number) × IsHiddenBy earlier line)
IsHidden before line None = All (λ earlier. IsHiddenBy earlier line → ⊥) before
IsHidden before line _ = ⊥

-- that an argument looks as a comment, exactly if one does
abbrev pub comment_of : Line → Option Doubt
comment_of line = if list_any begins_with_hash line.args then Some (Comment line.number) else None

-- that a word of a request may be taken for an option, exactly if one may
abbrev pub exposed_of : Line → Option Doubt
exposed_of line = option_map (Exposed line.number) (exposed_in line line.args)

-- that others may write the file, exactly if its permissions say so: the bits of its group or of all others
abbrev pub writable_of : ℕ → Option Doubt
writable_of mode = if bit_and mode 18 == 0 then None else Some Writable
