-- What a line says, and why it is refused.
use Rattle.std.specs.Prelude.{ℕ, List, ◌∷◌, length, drop, not, Option, Some, None, is_none, Bool, nat_lt, if◌then◌else◌}
use Rattle.std.specs.List.{filter_map, list_any}
use Rattle.rk_text.specs.Text.{is_text, begins_with}
use Rattle.rk_conf.specs.declared.fault.ConfKind.{ConfKind}
use Rattle.rk_conf.specs.declared.fault.ConfKind.TheVariants.{TooLong, BadByte, TooFewFields, ProgNotAbsolute, BadMacro}
use Rattle.rk_conf.specs.declared.line.Line.{Line}
use Rattle.rk_conf.specs.Text.{fields_of}
use Rattle.rk_conf.specs.Macros.{argument_of}

-- the program without its leading `|`
abbrev pub path_of : List ℕ → List ℕ
path_of prog = if begins_with 124 prog then drop 1 prog else prog

-- an argument that begins with `%` and is no macro
abbrev pub is_bad_macro : List ℕ → Bool
is_bad_macro field = is_none (argument_of field)

-- the first rule that five fields or more, or fewer, break
abbrev pub fields_fault : List (List ℕ) → Option ConfKind
fields_fault (op ∷ typ ∷ desc ∷ callout ∷ prog ∷ args) =
    if not (begins_with 47 (path_of prog)) then Some ProgNotAbsolute else (if list_any is_bad_macro args then Some BadMacro else None)
fields_fault _ = Some TooFewFields

-- the first rule that a line breaks
unfoldable pub refusal_of : List ℕ → Option ConfKind
refusal_of line = if nat_lt 8192 (length line) then Some TooLong else (if not (is_text line) then Some BadByte else fields_fault (fields_of line))

-- the line of these fields; nothing if there are fewer than five
abbrev pub line_of : ℕ → List (List ℕ) → Option Line
line_of n (op ∷ typ ∷ desc ∷ callout ∷ prog ∷ args) =
    Some (record {
      number = n;
      op = op;
      typ = typ;
      desc = desc;
      callout = callout;
      prog = path_of prog;
      args = filter_map argument_of args;
      piped = begins_with 124 prog;
    })
line_of n _ = None
