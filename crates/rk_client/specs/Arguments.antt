-- What the arguments of an op say.
use Rattle.std.specs.Prelude.{◌≡◌, ◌≢◌, ℕ, ℤ, pos, negsuc, List, [], ◌∷◌, codes, map, length, Option, Some, None, option_map, option_and_then, Result, Ok, Err, IsSome, IfOk, MatchResult, if◌then◌else◌}
use Rattle.std.specs.Option.{option_map_or}
use Rattle.std.specs.Str.{bytes_eq}
use Rattle.rk_text.specs.Numbers.{number_of, up_to}
use Rattle.rk_names.specs.declared.errors.NameFault.{NameFault}
use Rattle.rk_names.specs.Rules.{type_fault, description_fault, payload_fault, callout_fault}
use Rattle.rk_names.specs.Numbers.{key_error_named}
use Rattle.rk_message.specs.declared.shape.Op.{Op}
use Rattle.rk_message.specs.declared.shape.Op.TheVariants as op
use Rattle.rk_message.specs.declared.shape.FieldKind.{FieldKind}
use Rattle.rk_message.specs.declared.shape.FieldKind.TheVariants as field
use Rattle.rk_message.specs.Ask.{Ask}
use Rattle.rk_message.specs.Wire.{Value, U32, I32, Blob, Maybe}
use Rattle.rk_message.specs.Table.{ask_fields}
use Rattle.rk_message.specs.Asks.{ask_op, ask_values, error_number}
use Rattle.rk_client.specs.declared.argument.Role.{Role}
use Rattle.rk_client.specs.declared.fault.ArgumentFault.{ArgumentFault}
use Rattle.rk_client.specs.declared.fault.ArgumentFault.TheVariants.{Count, Bad, NoMemory}

-- the words and numbers of a table
abbrev pub roles : List Role → List (List ℕ × ℤ)
roles table = map (λ (r : Role). (r.name.now, r.number)) table

-- the number of a word of the table
abbrev pub role_of : List (List ℕ × ℤ) → List ℕ → Option ℤ
role_of [] word = None
role_of (line ∷ lines) word = if bytes_eq line.0 word then Some line.1 else role_of lines word

-- the word for a key: keyctl(2), KEY_SPEC_REQKEY_AUTH_KEY
abbrev pub key_roles : List (List ℕ × ℤ)
key_roles = (codes "auth", negsuc 6) ∷ []

-- the words for a ring: none, keyctl(2)'s KEY_SPEC_THREAD_KEYRING and the like, and KEY_SPEC_REQUESTOR_KEYRING
abbrev pub ring_roles : List (List ℕ × ℤ)
ring_roles =
    (codes "none", pos 0) ∷ (codes "thread", negsuc 0) ∷ (codes "process", negsuc 1) ∷ (codes "session", negsuc 2) ∷ (codes "user", negsuc 3)
    ∷ (codes "requestor", negsuc 7) ∷ []

-- the words for a setting: keyctl(2), KEY_REQKEY_DEFL_NO_CHANGE to KEY_REQKEY_DEFL_REQUESTOR_KEYRING
abbrev pub setting_roles : List (List ℕ × ℤ)
setting_roles =
    (codes "keep", negsuc 0) ∷ (codes "default", pos 0) ∷ (codes "thread", pos 1) ∷ (codes "process", pos 2) ∷ (codes "session", pos 3)
    ∷ (codes "user", pos 4) ∷ (codes "requestor", pos 7) ∷ []

-- the first of two that is there
abbrev pub first_of : Option ℤ → Option ℤ → Option ℤ
first_of (Some z) other = Some z
first_of None other = other

-- 0, or a serial
abbrev pub serial_said : List ℕ → Option ℤ
serial_said word = option_map pos (up_to 2147483647 (number_of word))

-- where a rule finds no fault
abbrev pub unless : Option NameFault → Value → Option Value
unless None v = Some v
unless (Some f) v = None

-- the field of a kind that an argument says, None if it says none; uid, gid, flags and join are no arguments
unfoldable pub value_said : FieldKind → List ℕ → Option Value
value_said field.Type word = unless (type_fault word) (Blob word)
value_said field.Description word = unless (description_fault word) (Blob word)
value_said field.Payload word = unless (payload_fault word) (Blob word)
value_said field.Callout word = unless (callout_fault word) (Maybe (Some word))
value_said field.Key word = option_map I32 (first_of (role_of key_roles word) (serial_said word))
value_said field.Ring word = option_map I32 (first_of (role_of ring_roles word) (serial_said word))
value_said field.Setting word = option_map I32 (role_of setting_roles word)
value_said field.Seconds word = option_map U32 (up_to 4294967295 (number_of word))
value_said field.Error word = option_map (λ e. U32 (error_number e)) (option_and_then key_error_named (up_to 4294967295 (number_of word)))
value_said _ word = None

-- the field of a kind, where its argument may be left out: a callout alone may
abbrev pub field_said : FieldKind → Option (List ℕ) → Option Value
field_said k (Some word) = value_said k word
field_said field.Callout None = Some (Maybe None)
field_said _ None = None

-- a first field and those after it
abbrev pub joined : Option Value → Option (List Value) → Option (List Value)
joined (Some v) (Some vs) = Some (v ∷ vs)
joined _ _ = None

-- as many fields as there are arguments
unfoldable pub fields_said : List FieldKind → List (Option (List ℕ)) → Option (List Value)
fields_said [] [] = Some []
fields_said (k ∷ ks) (word ∷ words) = joined (field_said k word) (fields_said ks words)
fields_said _ _ = None

-- the arguments in the order of the fields: a callout comes last, or is left out
abbrev pub in_order : Op → List (List ℕ) → List (Option (List ℕ))
in_order op.Request (typ ∷ description ∷ ring ∷ []) = Some typ ∷ Some description ∷ None ∷ Some ring ∷ []
in_order op.Request (typ ∷ description ∷ ring ∷ callout ∷ []) = Some typ ∷ Some description ∷ Some callout ∷ Some ring ∷ []
in_order _ words = map Some words

-- the fields of the ask of this op with these arguments, if it is one
abbrev pub ask_said : Op → List (List ℕ) → Option (List Value)
ask_said o words = fields_said (ask_fields o) (in_order o words)

-- what is returned, seen by view, is the field that the argument says; else the argument is bad for its kind
abbrev pub IsSaid : {X : Type 0} → (X → Value) → FieldKind → List ℕ → Result X ArgumentFault → Type 0
IsSaid view k word (Ok x) = value_said k word ≡ Some (view x)
IsSaid view k word (Err e) = (value_said k word ≡ None) × (e ≡ Bad k)

-- the kind of the first field that its argument does not say
unfoldable pub first_unsaid : List FieldKind → List (Option (List ℕ)) → Option FieldKind
first_unsaid (k ∷ ks) (word ∷ words) = option_map_or (λ v. first_unsaid ks words) (field_said k word) (Some k)
first_unsaid _ _ = None

-- why arguments are no fields of these kinds: there are more or fewer, or one says nothing; memory is wanted for those alone that say all
abbrev pub IsRefused : List FieldKind → List (Option (List ℕ)) → ArgumentFault → Type 0
IsRefused kinds words NoMemory = IsSome (fields_said kinds words)
IsRefused kinds words Count = length words ≢ length kinds
IsRefused kinds words (Bad k) = (length words ≡ length kinds) × (first_unsaid kinds words ≡ Some k)

-- what is returned, seen by view, is what the arguments say, or else they are refused
abbrev pub Gives : {X : Type 0} → (X → List Value) → List FieldKind → List (Option (List ℕ)) → Result X ArgumentFault → Type 0
Gives view kinds words r = MatchResult r (λ x. fields_said kinds words ≡ Some (view x)) (IsRefused kinds words)

-- why there is no ask of this op with these arguments: HELLO is made of options, and takes none
abbrev pub IsNoAsk : Op → List (List ℕ) → ArgumentFault → Type 0
IsNoAsk op.Hello words e = e ≡ Count
IsNoAsk o words e = IsRefused (ask_fields o) (in_order o words) e

-- the ask of the op with these arguments, or why there is none
abbrev pub AsksOrNot : Op → List (List ℕ) → Result Ask ArgumentFault → Type 0
AsksOrNot o words r = MatchResult r (λ a. ask_said o words ≡ Some (ask_values a)) (IsNoAsk o words) × IfOk r (λ a. ask_op a ≡ o)
