-- What an argument of a line stands for.
use Rattle.std.specs.Prelude.{ℕ, ◌-◌, List, length, drop, take, Option, Some, None, is_none, ◌&&◌, ◌==◌, nat_lt, option_map, option_and_then, slice_index, if◌then◌else◌}
use Rattle.std.specs.List.{before_first, after_first}
use Rattle.rk_names.specs.Rules.{type_fault, description_fault}
use Rattle.rk_conf.specs.declared.argument.Wanted.{Wanted}
use Rattle.rk_conf.specs.declared.argument.Argument.{Argument}
use Rattle.rk_conf.specs.declared.argument.Argument.TheVariants as argument
use Rattle.rk_text.specs.Text.{begins_with}

-- the macro of one letter, which stands after a `%`
abbrev pub letter_macro : ℕ → Option Argument
letter_macro c =
    if c == 111 then Some argument.Operation
    else (if c == 107 then Some argument.Key
    else (if c == 116 then Some argument.Type
    else (if c == 100 then Some argument.Description
    else (if c == 99 then Some argument.Callout
    else (if c == 117 then Some argument.Uid
    else (if c == 103 then Some argument.Gid
    else (if c == 84 then Some argument.Thread
    else (if c == 80 then Some argument.Process
    else (if c == 83 then Some argument.Session else None)))))))))

-- a type and a description, divided at the first colon, where both are valid names
abbrev pub wanted_of : List ℕ → Option Wanted
wanted_of name =
    let typ = before_first (λ b. b == 58) name in
    let desc = after_first (λ b. b == 58) name in
    if is_none (type_fault typ) && is_none (description_fault desc) then Some (record { typ = typ; desc = desc }) else None

-- what stands between an opening brace and a closing one, which is the last byte
abbrev pub in_braces : List ℕ → Option (List ℕ)
in_braces text =
    if nat_lt 1 (length text) && (slice_index text 0 == 123) && (slice_index text (length text - 1) == 125)
    then Some (take (length text - 2) (drop 1 text))
    else None

-- `{type:description}`
abbrev pub payload_macro : List ℕ → Option Argument
payload_macro text = option_map argument.Payload (option_and_then wanted_of (in_braces text))

-- what follows the first `%`: one more `%` begins a literal, and a macro is one letter or braces
abbrev pub macro_of : List ℕ → Option Argument
macro_of rest =
    if begins_with 37 rest then Some (argument.Literal rest)
    else (if length rest == 1 then letter_macro (slice_index rest 0) else payload_macro rest)

-- an argument is a macro where it begins with `%`, and else itself
unfoldable pub argument_of : List ℕ → Option Argument
argument_of field = if begins_with 37 field then macro_of (drop 1 field) else Some (argument.Literal field)
