-- What is replied to a session.
use Rattle.std.specs.Prelude.{◌≡◌, ℕ, List, Option, Some, None}
use Rattle.rk_frame.specs.Framing.{frame}
use Rattle.rk_message.specs.declared.reply.Reply.{Reply}
use Rattle.rk_message.specs.declared.reply.Reply.TheVariants as reply
use Rattle.rk_message.specs.Wire.{spelling}
use Rattle.rk_message.specs.Replies.{reply_message}
use Rattle.rk_machine.specs.declared.event.Answer.{Answer}
use Rattle.rk_machine.specs.declared.event.Answer.TheVariants.{Done, Start, Negate, Waiting, Refused}

-- a reply as the frame of its one spelling
unfoldable pub reply_bytes : Reply → List ℕ
reply_bytes r = frame (spelling (reply_message r))

-- what is replied with an answer, where it is one that ends the ask
abbrev pub reply_of : Answer → Option Reply
reply_of (Done r) = Some r
reply_of (Refused e) = Some (reply.Refused e)
reply_of (Start k subject) = None
reply_of (Negate k) = None
reply_of (Waiting k) = None

-- the bytes are those of the answer's reply
abbrev pub ReplyFramed : Answer → List ℕ → Type 0
ReplyFramed answer bytes = (r : Reply) × (reply_of answer ≡ Some r) × (bytes ≡ reply_bytes r)

-- whether memory is asked for to make a reply: for bytes and for the serials of rings; if there is none, it is for none
abbrev pub TakesMemory : Option Reply → Type 0
TakesMemory None = ⊥
TakesMemory (Some (reply.Number n)) = ⊥
TakesMemory (Some (reply.Refused e)) = ⊥
TakesMemory _ = Unit {0}

-- why an answer may get no frame: its reply takes memory, or it ends no ask, and has no reply
abbrev pub LacksFrame : Answer → Type 0
LacksFrame (Done r) = TakesMemory (Some r)
LacksFrame (Refused e) = ⊥
LacksFrame _ = Unit {0}
