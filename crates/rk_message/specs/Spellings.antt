-- A message that is to be written: its first byte and at most four fields.
use Rattle.std.specs.Prelude.{ℕ, ◌<◌, ◌^◌, List, [], ◌∷◌, length, Some, None}
use Rattle.std.specs.List.{flat_map}
use Rattle.rk_message.specs.declared.spelling.Field.{Field}
use Rattle.rk_message.specs.declared.spelling.Field.TheVariants as field
use Rattle.rk_message.specs.declared.spelling.Spelling.{Spelling}
use Rattle.rk_message.specs.Wire.{U8, U32, I32, Blob, Maybe, spelled}

-- the bytes of a field; an absent one has none
abbrev pub field_bytes : Field → List ℕ
field_bytes (field.Byte n) = spelled (U8 n)
field_bytes (field.Word n) = spelled (U32 n)
field_bytes (field.Signed z) = spelled (I32 z)
field_bytes (field.Block bytes) = spelled (Blob bytes.now)
field_bytes (field.Optional None) = spelled (Maybe None)
field_bytes (field.Optional (Some bytes)) = spelled (Maybe (Some bytes.now))
field_bytes field.Absent = []

-- the bytes of the message
abbrev pub all_bytes : Spelling → List ℕ
all_bytes s = s.op ∷ flat_map field_bytes (s.fields.0 ∷ s.fields.1 ∷ s.fields.2 ∷ s.fields.3 ∷ [])

-- the length of the bytes of a field can be told
abbrev pub IsTold : Field → Type 0
IsTold (field.Block bytes) = length bytes.now < 2 ^ 16
IsTold (field.Optional (Some bytes)) = length bytes.now < 2 ^ 16
IsTold _ = Unit {0}

-- the same of each field of the message
abbrev pub AreTold : Spelling → Type 0
AreTold s = IsTold s.fields.0 × IsTold s.fields.1 × IsTold s.fields.2 × IsTold s.fields.3
