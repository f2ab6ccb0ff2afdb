-- The format: each ask by its op byte, each reply by its kind byte, and the fields after it.
use Rattle.std.specs.Prelude.{ℕ, List, [], ◌∷◌, length, map, codes, true, Option, Some, None, is_some, nat_lt, if◌then◌else◌}
use Rattle.rk_names.specs.declared.errors.Errno.{Errno}
use Rattle.rk_names.specs.declared.errors.Errno.TheVariants.{Einval}
use Rattle.rk_names.specs.declared.errors.NameFault.{NameFault}
use Rattle.rk_names.specs.Rules.{type_fault, description_fault, callout_fault, payload_fault}
use Rattle.rk_names.specs.Numbers.{fault_errno, errno_named, key_error_named}
use Rattle.rk_message.specs.declared.shape.Op.{Op}
use Rattle.rk_message.specs.declared.shape.Op.TheVariants as op
use Rattle.rk_message.specs.declared.shape.FieldKind.{FieldKind}
use Rattle.rk_message.specs.declared.shape.FieldKind.TheVariants as field
use Rattle.rk_message.specs.declared.shape.AskShape.{AskShape}
use Rattle.rk_message.specs.Wire.{Kind, Byte, Word, Signed, Block, Optional, Fields}

-- what the fault of a name is answered as
abbrev pub refusal : Option NameFault → Option Errno
refusal None = None
refusal (Some f) = Some (fault_errno f)

-- any number of four bytes
abbrev pub any : Kind
any = Word (λ _. true)

-- bit 0: a thread ring, bit 1: a process ring
abbrev pub flags : Kind
flags = Byte (λ n. nat_lt n 4)

-- 0, or the serial of a session ring
abbrev pub join : Kind
join = Word (λ n. nat_lt n 2147483648)

-- the number of a key's error: keyctl_reject(3)
abbrev pub error : Kind
error = Word (λ n. is_some (key_error_named n))

-- the rule of a type
abbrev pub type_rule : List ℕ → Option Errno
type_rule bytes = refusal (type_fault bytes)

-- a type
abbrev pub type_name : Kind
type_name = Block type_rule

-- the rule of a description
abbrev pub description_rule : List ℕ → Option Errno
description_rule bytes = refusal (description_fault bytes)

-- a description
abbrev pub description : Kind
description = Block description_rule

-- the rule of a payload
abbrev pub payload_rule : List ℕ → Option Errno
payload_rule bytes = refusal (payload_fault bytes)

-- a payload
abbrev pub payload : Kind
payload = Block payload_rule

-- the rule of a callout
abbrev pub callout_rule : List ℕ → Option Errno
callout_rule bytes = refusal (callout_fault bytes)

-- a callout, or none
abbrev pub callout : Kind
callout = Optional callout_rule

-- how a field of the kind is spelled, and its rule
abbrev pub form : FieldKind → Kind
form field.Uid = any
form field.Gid = any
form field.Flags = flags
form field.Join = join
form field.Type = type_name
form field.Description = description
form field.Callout = callout
form field.Key = Signed
form field.Payload = payload
form field.Ring = Signed
form field.Seconds = any
form field.Error = error
form field.Setting = Signed

-- what the format calls a field
abbrev pub field_name : FieldKind → List ℕ
field_name field.Uid = codes "uid"
field_name field.Gid = codes "gid"
field_name field.Flags = codes "flags"
field_name field.Join = codes "join"
field_name field.Type = codes "type"
field_name field.Description = codes "description"
field_name field.Callout = codes "callout"
field_name field.Key = codes "key"
field_name field.Payload = codes "payload"
field_name field.Ring = codes "ring"
field_name field.Seconds = codes "seconds"
field_name field.Error = codes "error"
field_name field.Setting = codes "setting"

-- the table of asks: the op byte, the name, and the fields after the byte
abbrev pub ask_line : Op → ℕ × List ℕ × List FieldKind
ask_line op.Hello = (1, codes "HELLO", field.Uid ∷ field.Gid ∷ field.Flags ∷ field.Join ∷ [])
ask_line op.Request = (2, codes "REQUEST", field.Type ∷ field.Description ∷ field.Callout ∷ field.Ring ∷ [])
ask_line op.Assume = (3, codes "ASSUME", field.Key ∷ [])
ask_line op.Instantiate = (4, codes "INSTANTIATE", field.Key ∷ field.Payload ∷ field.Ring ∷ [])
ask_line op.Negate = (5, codes "NEGATE", field.Key ∷ field.Seconds ∷ field.Ring ∷ [])
ask_line op.Reject = (6, codes "REJECT", field.Key ∷ field.Seconds ∷ field.Error ∷ field.Ring ∷ [])
ask_line op.Read = (7, codes "READ", field.Key ∷ [])
ask_line op.Describe = (8, codes "DESCRIBE", field.Key ∷ [])
ask_line op.Revoke = (9, codes "REVOKE", field.Key ∷ [])
ask_line op.Timeout = (10, codes "TIMEOUT", field.Key ∷ field.Seconds ∷ [])
ask_line op.Link = (11, codes "LINK", field.Key ∷ field.Ring ∷ [])
ask_line op.Unlink = (12, codes "UNLINK", field.Key ∷ field.Ring ∷ [])
ask_line op.Clear = (13, codes "CLEAR", field.Ring ∷ [])
ask_line op.Default = (14, codes "DEFAULT", field.Setting ∷ [])
ask_line op.Add = (15, codes "ADD", field.Type ∷ field.Description ∷ field.Payload ∷ field.Ring ∷ [])
ask_line op.Callout = (16, codes "CALLOUT", [])

-- the first byte of an ask
abbrev pub op_byte : Op → ℕ
op_byte o = (ask_line o).0

-- the fields of an ask
abbrev pub ask_fields : Op → List FieldKind
ask_fields o = (ask_line o).2

-- every op
abbrev pub ops : List Op
ops =
    op.Hello ∷ op.Request ∷ op.Assume ∷ op.Instantiate ∷ op.Negate ∷ op.Reject ∷ op.Read ∷ op.Describe ∷ op.Revoke ∷ op.Timeout ∷ op.Link ∷ op.Unlink
    ∷ op.Clear ∷ op.Default ∷ op.Add ∷ op.Callout ∷ []

-- the first bytes of asks, and the kinds of the fields after each
abbrev pub asks : Fields
asks = map (λ o. (op_byte o, map form (ask_fields o))) ops

-- a line of the code's table, as one of this
abbrev pub line_of : AskShape → Op × (ℕ × List ℕ × List FieldKind)
line_of shape = (shape.op, (op_byte shape.op, shape.name.now, shape.fields.now))

-- so many bytes that, with their length and the kind byte, they fill a frame of 65,536
abbrev pub reply_rule : List ℕ → Option Errno
reply_rule bytes = if nat_lt 65533 (length bytes) then Some Einval else None

-- the bytes of a reply
abbrev pub reply_block : Kind
reply_block = Block reply_rule

-- the number of an error: errno(3)
abbrev pub errno : Kind
errno = Byte (λ n. is_some (errno_named n))

-- Number, Bytes, Rings, Refused
abbrev pub replies : Fields
replies =
    (0, any ∷ [])
    ∷ (1, reply_block ∷ [])
    ∷ (2, any ∷ any ∷ any ∷ any ∷ [])
    ∷ (3, errno ∷ [])
    ∷ []
