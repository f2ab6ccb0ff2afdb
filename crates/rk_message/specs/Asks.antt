-- What an ask is on the wire.
use Rattle.std.specs.Prelude.{ℕ, List, [], ◌∷◌, ◌+◌, ◌≤◌, Bool, Option, Some, None, Result, IfOk, IfSome, if◌then◌else◌}
use Rattle.rk_names.specs.declared.errors.KeyError.{KeyError}
use Rattle.rk_names.specs.Numbers.{errno_number, key_errno}
use Rattle.rk_message.specs.declared.ask.AskOf.{AskOf}
use Rattle.rk_message.specs.Ask.{Ask}
use Rattle.rk_message.specs.declared.ask.AskOf.TheVariants as ask
use Rattle.rk_message.specs.declared.shape.Op.{Op}
use Rattle.rk_message.specs.declared.shape.Op.TheVariants as op
use Rattle.rk_message.specs.declared.fault.Fault.{Fault}
use Rattle.rk_message.specs.Wire.{Value, U8, U32, I32, Blob, Maybe, Message, IsMessage}
use Rattle.rk_message.specs.Table.{asks, ask_line, op_byte}
use Rattle.rk_message.specs.Reading.{Reads}

-- bit 0: a thread ring, bit 1: a process ring
abbrev pub flag_bits : Bool → Bool → ℕ
flag_bits thread process = (if thread then 1 else 0) + (if process then 2 else 0)

-- the serial to join, 0 for none
abbrev pub join_number : Option ℕ → ℕ
join_number None = 0
join_number (Some n) = n

-- a key's error, as its errno's number
abbrev pub error_number : KeyError → ℕ
error_number e = errno_number (key_errno e)

-- the fields of an ask
abbrev pub ask_values : Ask → List Value
ask_values (ask.Hello hello) = U32 hello.uid ∷ U32 hello.gid ∷ U8 (flag_bits hello.thread hello.process) ∷ U32 (join_number hello.join) ∷ []
ask_values (ask.Request typ description callout destination) = Blob typ ∷ Blob description ∷ Maybe callout ∷ I32 destination ∷ []
ask_values (ask.Assume key) = I32 key ∷ []
ask_values (ask.Instantiate key payload ring) = I32 key ∷ Blob payload ∷ I32 ring ∷ []
ask_values (ask.Negate key timeout ring) = I32 key ∷ U32 timeout ∷ I32 ring ∷ []
ask_values (ask.Reject key timeout error ring) = I32 key ∷ U32 timeout ∷ U32 (error_number error) ∷ I32 ring ∷ []
ask_values (ask.Read key) = I32 key ∷ []
ask_values (ask.Describe key) = I32 key ∷ []
ask_values (ask.Revoke key) = I32 key ∷ []
ask_values (ask.Timeout key seconds) = I32 key ∷ U32 seconds ∷ []
ask_values (ask.Link key ring) = I32 key ∷ I32 ring ∷ []
ask_values (ask.Unlink key ring) = I32 key ∷ I32 ring ∷ []
ask_values (ask.Clear ring) = I32 ring ∷ []
ask_values (ask.Default setting) = I32 setting ∷ []
ask_values (ask.Add typ description payload ring) = Blob typ ∷ Blob description ∷ Blob payload ∷ I32 ring ∷ []
ask_values ask.Callout = []

-- what an ask asks
abbrev pub ask_op : {T D C P : Type 0} → AskOf T D C P → Op
ask_op (ask.Hello _) = op.Hello
ask_op (ask.Request _ _ _ _) = op.Request
ask_op (ask.Assume _) = op.Assume
ask_op (ask.Instantiate _ _ _) = op.Instantiate
ask_op (ask.Negate _ _ _) = op.Negate
ask_op (ask.Reject _ _ _ _) = op.Reject
ask_op (ask.Read _) = op.Read
ask_op (ask.Describe _) = op.Describe
ask_op (ask.Revoke _) = op.Revoke
ask_op (ask.Timeout _ _) = op.Timeout
ask_op (ask.Link _ _) = op.Link
ask_op (ask.Unlink _ _) = op.Unlink
ask_op (ask.Clear _) = op.Clear
ask_op (ask.Default _) = op.Default
ask_op (ask.Add _ _ _ _) = op.Add
ask_op ask.Callout = op.Callout

-- the name of an ask in the table
abbrev pub ask_name : {T D C P : Type 0} → AskOf T D C P → List ℕ
ask_name a = (ask_line (ask_op a)).1

-- the message that an ask is
abbrev pub ask_message : Ask → Message
ask_message a = record { op = op_byte (ask_op a); values = ask_values a }

-- a ring to join has a serial, and no serial is 0
abbrev pub JoinsASerial : Ask → Type 0
JoinsASerial (ask.Hello hello) = IfSome hello.join (λ n. 1 ≤ n)
JoinsASerial _ = Unit {0}

-- the fields keep what their types promise
abbrev pub IsAsk : Ask → Type 0
IsAsk a = IsMessage asks (ask_message a) × JoinsASerial a

-- the ask that was returned is what reading gives
abbrev pub ReadsAsk : Result Ask Fault → Result Message Fault → Type 0
ReadsAsk r read = Reads ask_message r read × IfOk r JoinsASerial
