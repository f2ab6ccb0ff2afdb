-- Reading from left to right, with the first fault that is met.
use Rattle.std.specs.Prelude.{◌≡◌, ℕ, zero, suc, List, [], ◌∷◌, length, take, drop, Option, Some, None, Result, Ok, Err, IsOk, nat_lt, ◌==◌, if◌then◌else◌}
use Rattle.std.specs.Int.{Width, w16, w32, byte_len, from_be_bytes, cast_signed}
use Rattle.rk_names.specs.declared.errors.Errno.{Errno}
use Rattle.rk_names.specs.declared.errors.Errno.TheVariants.{Einval}
use Rattle.rk_message.specs.declared.fault.Fault.{Fault}
use Rattle.rk_message.specs.declared.fault.Fault.TheVariants.{UnknownOp, Short, Trailing, Bad}
use Rattle.rk_message.specs.declared.fault.ReadError.{ReadError}
use Rattle.rk_message.specs.declared.fault.ReadError.TheVariants as errors
use Rattle.rk_message.specs.Wire.{Value, U8, U32, I32, Blob, Maybe, Kind, Byte, Word, Signed, Block, Optional, Message, Fields, kinds_of}

-- one step of reading and then another; the first fault is the answer
infixl 10 ◌>>=◌
abbrev pub ◌>>=◌ : {A B : Type 0} → Result A Fault → (A → Result B Fault) → Result B Fault
(Ok x) >>= f = f x
(Err e) >>= f = Err e

-- what a function returned, seen by view, is what reading gives
abbrev pub Reads : {X Y : Type 0} → (X → Y) → Result X Fault → Result Y Fault → Type 0
Reads view (Ok x) read = read ≡ Ok (view x)
Reads view (Err f) read = read ≡ Err f

-- a fault is the one that reading gives; memory is wanted only for what has a reading
abbrev pub Fails : {Y : Type 0} → ReadError → Result Y Fault → Type 0
Fails errors.NoMemory read = IsOk read
Fails (errors.Fault f) read = read ≡ Err f

-- what a function returned, seen by view, is what reading gives, or it lacked memory for that
abbrev pub Gives : {X Y : Type 0} → (X → Y) → Result X ReadError → Result Y Fault → Type 0
Gives view (Ok x) read = read ≡ Ok (view x)
Gives view (Err e) read = Fails e read

-- a number at the front, and the bytes after it
abbrev pub number_at : Width → List ℕ → Result (ℕ × List ℕ) Fault
number_at w bytes = if nat_lt (length bytes) (byte_len w) then Err Short else Ok (from_be_bytes w (take (byte_len w) bytes), drop (byte_len w) bytes)

-- the bytes that their length says, and those after them
unfoldable pub block_at : List ℕ → Result (List ℕ × List ℕ) Fault
block_at bytes = do
  n ← number_at w16 bytes
  if nat_lt (length n.1) n.0 then Err Short else Ok (take n.0 n.1, drop n.0 n.1)

-- x, unless a rule refuses
abbrev pub unless : {A : Type 0} → Option Errno → A → Result A Fault
unless None x = Ok x
unless (Some e) x = Err (Bad e)

-- the bytes that their length says, where the rule does not refuse them
unfoldable pub checked_at : (List ℕ → Option Errno) → List ℕ → Result (List ℕ × List ℕ) Fault
checked_at rule bytes = do
  b ← block_at bytes
  unless (rule b.0) b

-- a field of the kind at the front, and the bytes after it
unfoldable pub value_at : Kind → List ℕ → Result (Value × List ℕ) Fault
value_at (Byte passes) [] = Err Short
value_at (Byte passes) (b ∷ rest) = if passes b then Ok (U8 b, rest) else Err (Bad Einval)
value_at (Word passes) bytes = do
  n ← number_at w32 bytes
  if passes n.0 then Ok (U32 n.0, n.1) else Err (Bad Einval)
value_at Signed bytes = do
  n ← number_at w32 bytes
  Ok (I32 (cast_signed w32 n.0), n.1)
value_at (Block rule) bytes = do
  b ← checked_at rule bytes
  Ok (Blob b.0, b.1)
value_at (Optional rule) [] = Err Short
value_at (Optional rule) (zero ∷ rest) = Ok (Maybe None, rest)
value_at (Optional rule) (suc zero ∷ rest) = do
  b ← checked_at rule rest
  Ok (Maybe (Some b.0), b.1)
value_at (Optional rule) (suc (suc b) ∷ rest) = Err (Bad Einval)

-- fields of the kinds at the front, and the bytes after them
unfoldable pub values_at : List Kind → List ℕ → Result (List Value × List ℕ) Fault
values_at [] bytes = Ok ([], bytes)
values_at (k ∷ ks) bytes = do
  first ← value_at k bytes
  others ← values_at ks first.1
  Ok (first.0 ∷ others.0, others.1)

-- fields of the kinds, and nothing after them
unfoldable pub all_values : List Kind → List ℕ → Result (List Value) Fault
all_values ks bytes = do
  vs ← values_at ks bytes
  if length vs.1 == 0 then Ok vs.0 else Err Trailing

-- a message of the kinds, if there are any
abbrev pub message_with : Option (List Kind) → ℕ → List ℕ → Result Message Fault
message_with None op rest = Err UnknownOp
message_with (Some ks) op rest = do
  vs ← all_values ks rest
  Ok (record { op = op; values = vs })

-- the message of the table with this first byte and these bytes after it
unfoldable pub message_behind : Fields → ℕ → List ℕ → Result Message Fault
message_behind lines op rest = message_with (kinds_of lines op) op rest

-- the message that all of the bytes spell
unfoldable pub message_at : Fields → List ℕ → Result Message Fault
message_at lines [] = Err Short
message_at lines (op ∷ rest) = message_behind lines op rest
