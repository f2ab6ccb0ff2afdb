-- What was written to the daemon, and what was read of it.
use Rattle.std.specs.Prelude.{◌≡◌, ℕ, List, ◌++◌, Option, Bool, true, false}
use Rattle.std.specs.Io.KnownBytes.{Appends, Consumes}
use Rattle.rk_frame.specs.Framing.{frame}
use Rattle.rk_message.specs.Ask.{Ask}
use Rattle.rk_message.specs.declared.reply.Reply.{Reply}
use Rattle.rk_message.specs.declared.reply.Reply.TheVariants as reply
use Rattle.rk_message.specs.Wire.{spelling}
use Rattle.rk_message.specs.Asks.{ask_message}
use Rattle.rk_message.specs.Replies.{IsReply, reply_message}

-- the frame of an ask
abbrev pub ask_frame : Ask → List ℕ
ask_frame a = frame (spelling (ask_message a))

-- the frame of a reply
abbrev pub reply_frame : Reply → List ℕ
reply_frame r = frame (spelling (reply_message r))

-- one ask was written, and one reply read: what was written and what was left to read, before and after
pub record HasAsked (written written' unread unread' : Option (List ℕ)) (ask : Ask) (answer : Reply) : Type 0 where
  pub wrote : Appends written written' (ask_frame ask)
  pub is_reply : IsReply answer
  pub read : Consumes unread unread' (reply_frame answer)

-- whether a reply is a refusal
abbrev pub is_refusal : Reply → Bool
is_refusal (reply.Number _) = false
is_refusal (reply.Bytes _) = false
is_refusal (reply.Rings _ _ _ _) = false
is_refusal (reply.Refused _) = true

-- the greeting was refused, and that is the answer; or it was not, and the ask was written and its reply read after that
pub data HasGreeted (written written' unread unread' : Option (List ℕ)) (greeting ask : Ask) (answer : Reply) : Type 0 where
  refused : HasAsked written written' unread unread' greeting answer → is_refusal answer ≡ true → HasGreeted written written' unread unread' greeting ask answer
  greeted : (between unread_between : Option (List ℕ)) (welcome : Reply) → HasAsked written between unread unread_between greeting welcome
      → is_refusal welcome ≡ false → HasAsked between written' unread_between unread' ask answer → HasGreeted written written' unread unread' greeting ask answer

-- the bytes begin with no reply's frame
abbrev pub HasNoReply : List ℕ → Type 0
HasNoReply bytes = (r : Reply) (more : List ℕ) → IsReply r → bytes ≡ reply_frame r ++ more → ⊥

-- the body spells no reply
abbrev pub SpellsNoReply : List ℕ → Type 0
SpellsNoReply body = (r : Reply) → IsReply r → body ≡ spelling (reply_message r) → ⊥
