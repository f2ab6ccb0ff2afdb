-- What the words of a call ask for.
use Rattle.std.specs.Prelude.{◌≡◌, ℕ, List, [], ◌∷◌, length, Bool, true, false, ◌||◌, codes, Option, Some, None, option_map, if◌then◌else◌, ◌⊎◌}
use Rattle.std.specs.Str.{bytes_eq}
use Rattle.std.specs.List.{insert, list_any, position}
use Rattle.rk_names.specs.Numbers.{serial_of}
use Rattle.rk_message.specs.Ask.{Ask}
use Rattle.rk_message.specs.declared.ask.AskOf.TheVariants as ask
use Rattle.rk_message.specs.declared.shape.FieldKind.{FieldKind}
use Rattle.rk_message.specs.declared.shape.FieldKind.TheVariants as field
use Rattle.rk_message.specs.declared.shape.Op.{Op}
use Rattle.rk_message.specs.declared.shape.Op.TheVariants as op
use Rattle.rk_message.specs.Asks.{ask_op, ask_values}
use Rattle.rk_message.specs.Table.{ask_fields}
use Rattle.rk_client.specs.Arguments.{ask_said}
use Rattle.rk_ctl.specs.Said.{CallSaid, OptionsSaid, in_front, is_alone, op_and_more}

-- a word that asks for help or for the version
abbrev pub is_help : List ℕ → Bool
is_help word = bytes_eq word (codes "--help") || bytes_eq word (codes "-h") || bytes_eq word (codes "--version") || bytes_eq word (codes "-V")

-- such a word stands in the place of an option
abbrev pub asks_in_front : List (List ℕ) → Bool
asks_in_front [] = false
asks_in_front (word ∷ []) = is_help word
asks_in_front (word ∷ next ∷ words) = is_help word || (if is_alone word then asks_in_front (next ∷ words) else asks_in_front words)

-- such a word is the only one
abbrev pub is_help_alone : List (List ℕ) → Bool
is_help_alone (word ∷ []) = is_help word
is_help_alone _ = false

-- it stands before the op, or is all that is after it
abbrev pub asks_of : List (List ℕ) → Option (Op × List (List ℕ)) → Bool
asks_of words None = asks_in_front words
asks_of words (Some (o, arguments)) = is_help_alone arguments || asks_in_front (in_front words arguments)

-- the words, of which the first is the name of the program, ask for help; all that is after an op are its arguments
abbrev pub asks_help : List (List ℕ) → Bool
asks_help [] = false
asks_help (program ∷ []) = false
asks_help (program ∷ word ∷ words) = if bytes_eq word (codes "run") then asks_in_front words else asks_of (word ∷ words) (op_and_more (word ∷ words))

-- who acts with these options: no ring of its own
abbrev pub greeting_said : OptionsSaid → Ask
greeting_said o = ask.Hello (record { uid = o.uid; gid = o.gid; thread = false; process = false; join = serial_of o.join })

-- HELLO
abbrev pub is_hello : Op → Bool
is_hello op.Hello = true
is_hello _ = false

-- what is said to the daemon before the ask of the call: the HELLO of its options; nothing before a HELLO
abbrev pub greeting_before : CallSaid → Option Ask
greeting_before call = if is_hello call.op then None else Some (greeting_said call.options)

-- a payload
abbrev pub is_payload : FieldKind → Bool
is_payload field.Payload = true
is_payload _ = false

-- what a handler gets
abbrev pub is_callout : FieldKind → Bool
is_callout field.Callout = true
is_callout _ = false

-- a file, and where its bytes stand among the arguments
pub record FileAt : Type 0 where
  pub path : List ℕ
  pub at : ℕ

-- the file that is named, if one is: a payload stands in its place, a callout after all arguments; none if an ask has no such field, or both are named
abbrev pub place_of : Option (List ℕ) → Option (List ℕ) → Op → ℕ → Option (Option FileAt)
place_of None None o count = Some None
place_of (Some path) None o count = option_map (λ at. Some (record { path = path; at = at })) (position is_payload (ask_fields o))
place_of None (Some path) o count = if list_any is_callout (ask_fields o) then Some (Some (record { path = path; at = count })) else None
place_of (Some path) (Some other) o count = None

-- the same, of a call
abbrev pub place_said : CallSaid → Option (Option FileAt)
place_said call = place_of call.options.payload_from call.options.callout_from call.op (length call.arguments)

-- the arguments, with more bytes in their place
abbrev pub with_bytes : List (List ℕ) → Option (ℕ × List ℕ) → List (List ℕ)
with_bytes arguments None = arguments
with_bytes arguments (Some (at, bytes)) = insert arguments at bytes

-- an ask of the call, with these bytes as one more argument: HELLO of its options, or what its arguments say
abbrev pub AsksWith : CallSaid → Option (ℕ × List ℕ) → Ask → Type 0
AsksWith call more a = (ask_op a ≡ call.op)
    × (((call.arguments ≡ []) × (a ≡ greeting_said call.options)) ⊎ (ask_said call.op (with_bytes call.arguments more) ≡ Some (ask_values a)))

-- the ask of the call, with the bytes of the file that is named, whatever it has
abbrev pub Asks : CallSaid → Ask → Type 0
Asks call a = (more : Option (ℕ × List ℕ)) × (option_map (option_map (λ (f : FileAt). f.at)) (place_said call) ≡ Some (option_map (λ (x : ℕ × List ℕ). x.0) more)) × AsksWith call more a
