-- What a reply is on the wire.
use Rattle.std.specs.Prelude.{[], ◌∷◌}
use Rattle.rk_names.specs.Numbers.{errno_number}
use Rattle.rk_message.specs.declared.reply.Reply.{Reply}
use Rattle.rk_message.specs.declared.reply.Reply.TheVariants as reply
use Rattle.rk_message.specs.Wire.{U8, U32, Blob, Message, IsMessage}
use Rattle.rk_message.specs.Table.{replies}

-- the message that a reply is
abbrev pub reply_message : Reply → Message
reply_message (reply.Number n) = record { op = 0; values = U32 n ∷ [] }
reply_message (reply.Bytes bytes) = record { op = 1; values = Blob bytes ∷ [] }
reply_message (reply.Rings thread process session user) = record { op = 2; values = U32 thread ∷ U32 process ∷ U32 session ∷ U32 user ∷ [] }
reply_message (reply.Refused e) = record { op = 3; values = U8 (errno_number e) ∷ [] }

-- the fields keep what their types promise
abbrev pub IsReply : Reply → Type 0
IsReply r = IsMessage replies (reply_message r)
