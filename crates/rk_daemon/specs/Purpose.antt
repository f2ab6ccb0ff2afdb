-- What a handler was started for, as lines of the log say it.
use Rattle.std.specs.Prelude.{ℕ, Bool, ◌+◌, ◌/◌, ◌%◌, ◌&&◌, not, ◌==◌, nat_le, nat_lt, if◌then◌else◌}
use Rattle.std.specs.Prelude.{List, [], ◌∷◌, ◌++◌, codes, decimal, length, take, Option, Some, None, IsNone}
use Rattle.std.specs.List.{flat_map}
use Rattle.rk_conf.specs.declared.line.Line.{Line}
use Rattle.rk_conf.specs.Choice.{IsChosen}
use Rattle.rk_macro.specs.declared.subject.Subject.{Subject}
use Rattle.rk_macro.specs.Ops.{op_name}

-- the line is the one that these lines' configuration picks for what a handler was started for; there is none if that is not known
abbrev pub IsLineFor : List Line → Option Subject → Option Line → Type 0
IsLineFor lines None line = IsNone line
IsLineFor lines (Some s) line = IsChosen lines (op_name s.op) s.typ s.desc s.callout line

-- printable ASCII, and neither `"` nor a backslash
abbrev pub is_plain : ℕ → Bool
is_plain b = nat_le 32 b && nat_lt b 127 && not (b == 34) && not (b == 92)

-- the last octal digit
abbrev pub octal : ℕ → ℕ
octal n = 48 + n % 8

-- a byte: itself, or `\0` and its three octal digits, which the %b of printf(1) reads
abbrev pub byte_text : ℕ → List ℕ
byte_text b = if is_plain b then b ∷ [] else 92 ∷ 48 ∷ octal (b / 64) ∷ octal (b / 8) ∷ octal b ∷ []

-- the first 128 bytes of a name or a path, and `..` where there are more
abbrev pub shown_text : List ℕ → List ℕ
shown_text bytes = if nat_lt 128 (length bytes) then flat_map byte_text (take 128 bytes) ++ codes ".." else flat_map byte_text bytes

-- the line that was chosen, and its program
abbrev pub line_text : Option Line → List ℕ
line_text None = []
line_text (Some line) = codes "; line " ++ decimal line.number ++ codes ", " ++ shown_text line.prog

-- the operation, and the type of the key
abbrev pub operation_text : Subject → List ℕ
operation_text s = codes " (" ++ shown_text (op_name s.op) ++ codes " " ++ shown_text s.typ

-- the description of the key, and the requester
abbrev pub key_text : Subject → List ℕ
key_text s = codes " \"" ++ shown_text s.desc ++ codes "\", uid " ++ decimal s.uid

-- all of it
abbrev pub purpose_text : Subject → Option Line → List ℕ
purpose_text s line = operation_text s ++ key_text s ++ line_text line ++ codes ")"
