-- Messages, their fields, and the one spelling of each. Numbers stand with their highest byte first.
use Rattle.std.specs.Prelude.{◌≡◌, ℕ, ℤ, ◌<◌, ◌==◌, ◌^◌, List, [], ◌∷◌, ◌++◌, length, Bool, true, Option, Some, None, FitsSigned, IsSomeAnd, if◌then◌else◌}
use Rattle.std.specs.List.{flat_map}
use Rattle.std.specs.Int.{w16, w32, to_be_bytes, cast_unsigned}
use Rattle.rk_names.specs.declared.errors.Errno.{Errno}

-- a field: a number of one byte or of four, a number with a sign, bytes, or bytes that may be left out
pub data Value : Type 0 where
  U8 : ℕ → Value
  U32 : ℕ → Value
  I32 : ℤ → Value
  Blob : List ℕ → Value
  Maybe : Option (List ℕ) → Value

-- which fields may stand in a place: numbers that pass a test, bytes that a rule does not refuse
pub data Kind : Type 0 where
  Byte : (ℕ → Bool) → Kind
  Word : (ℕ → Bool) → Kind
  Signed : Kind
  Block : (List ℕ → Option Errno) → Kind
  Optional : (List ℕ → Option Errno) → Kind

-- a first byte, which says what the message is, and the fields after it
pub record Message : Type 0 where
  pub op : ℕ
  pub values : List Value

-- bytes with their length before them
abbrev pub block : List ℕ → List ℕ
block bytes = to_be_bytes w16 (length bytes) ++ bytes

-- the bytes of a field
unfoldable pub spelled : Value → List ℕ
spelled (U8 n) = n ∷ []
spelled (U32 n) = to_be_bytes w32 n
spelled (I32 z) = to_be_bytes w32 (cast_unsigned w32 z)
spelled (Blob bytes) = block bytes
spelled (Maybe None) = 0 ∷ []
spelled (Maybe (Some bytes)) = 1 ∷ block bytes

-- the bytes of a message
abbrev pub spelling : Message → List ℕ
spelling m = m.op ∷ flat_map spelled m.values

-- bytes whose length can be told, and that the rule does not refuse
abbrev pub IsBlock : (List ℕ → Option Errno) → List ℕ → Type 0
IsBlock rule bytes = (length bytes < 2 ^ 16) × (rule bytes ≡ None)

-- the field is of that kind
abbrev pub IsValue : Kind → Value → Type 0
IsValue (Byte passes) (U8 n) = (n < 2 ^ 8) × (passes n ≡ true)
IsValue (Word passes) (U32 n) = (n < 2 ^ 32) × (passes n ≡ true)
IsValue Signed (I32 z) = FitsSigned w32 z
IsValue (Block rule) (Blob bytes) = IsBlock rule bytes
IsValue (Optional rule) (Maybe None) = Unit {0}
IsValue (Optional rule) (Maybe (Some bytes)) = IsBlock rule bytes
IsValue _ _ = ⊥

-- as many fields as kinds, each of its kind
abbrev pub AreValues : List Kind → List Value → Type 0
AreValues [] [] = Unit {0}
AreValues (k ∷ ks) (v ∷ vs) = IsValue k v × AreValues ks vs
AreValues _ _ = ⊥

-- a table: first bytes, and the kinds of the fields after each
abbrev pub Fields : Type 0
Fields = List (ℕ × List Kind)

-- the kinds after a first byte, if the table has it
abbrev pub kinds_of : Fields → ℕ → Option (List Kind)
kinds_of [] op = None
kinds_of (line ∷ lines) op = if op == line.0 then Some line.1 else kinds_of lines op

-- the message is one of the table
abbrev pub IsMessage : Fields → Message → Type 0
IsMessage lines m = IsSomeAnd (kinds_of lines m.op) (λ ks. AreValues ks m.values)
