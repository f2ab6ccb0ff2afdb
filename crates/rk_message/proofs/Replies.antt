-- A reply can be told from its message.
use Rattle.rk_message.proofs.Words.{◌≡◌, ap, refl, ℕ, sym, List, ◌∙◌, Ok, Err, Result, ◌==◌, unwrap_or, if◌then◌else◌, MatchResult, errno_number, errno_named}
use Rattle.rk_message.proofs.Words.{Errno, Gives, message_at, reply_message, IsReply, replies, Message, spelling, ReadError, NoMemory, Reply}
use Rattle.rk_names.specs.declared.errors.Errno.TheVariants as errno
use Rattle.rk_message.specs.declared.reply.Reply.TheVariants as reply
use Rattle.rk_message.proofs.Asks.{at, number, bytes}
use Rattle.rk_message.proofs.Messages.{message_again}
use Rattle.rk_message.proofs.Readers.{is_only}

-- the reply of a message
abbrev reply_of : Message → Reply
reply_of m =
    let a = at m.values 0 in
    if m.op == 0 then reply.Number (number a)
    else (if m.op == 1 then reply.Bytes (bytes a)
    else (if m.op == 2 then reply.Rings (number a) (number (at m.values 1)) (number (at m.values 2)) (number (at m.values 3))
    else reply.Refused (unwrap_or (errno_named (number a)) errno.Einval)))

errno_named-number : (e : Errno) → unwrap_or (errno_named (errno_number e)) errno.Einval ≡ e
errno_named-number errno.Eperm = refl
errno_named-number _ = refl

reply_of-message : (r : Reply) → reply_of (reply_message r) ≡ r
reply_of-message (reply.Refused e) = ap reply.Refused (errno_named-number e)
reply_of-message _ = refl

-- replies of the same message are the same reply
pub same_reply : (a b : Reply) → reply_message a ≡ reply_message b → a ≡ b
same_reply a b e = sym (reply_of-message a) ∙ ap reply_of e ∙ reply_of-message b

-- a reply that the body spells is what was read, unless memory ran out
pub reply_is_only : (body : List ℕ) (r : Result Reply ReadError) (a : Reply) → IsReply a → body ≡ spelling (reply_message a) → Gives reply_message r (message_at replies body)
    → MatchResult r (λ b. b ≡ a) (λ e. e ≡ NoMemory)
reply_is_only body (Ok b) a is e given = same_reply b a (is_only reply_message replies body (Ok b) (reply_message a) is e given)
reply_is_only body (Err f) a is e given = is_only reply_message replies body (Err f) (reply_message a) is e given

-- replies with the same spelling are the same reply
pub replies_are_told : (a b : Reply) → IsReply a → IsReply b → spelling (reply_message a) ≡ spelling (reply_message b) → a ≡ b
replies_are_told a b here there e =
    let one = message_again replies (reply_message a) here in
    let other = message_again replies (reply_message b) there in
    let same : reply_message a ≡ reply_message b = let joined = ap (message_at replies) e in cc in
    same_reply a b same
