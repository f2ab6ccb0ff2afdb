-- What a reply that was written, or tried, tells of the asks of a handler.
use Rattle.std.proofs.Common.{◌≡◌, List, [], ◌∷◌, ℕ, inl, inr, sym, ap, ◌∙◌}
use Rattle.std.specs.Prelude.{Result, Ok, Err, is_ok}
use Rattle.rk_message.specs.declared.reply.Reply.{Reply}
use Rattle.rk_devices.specs.declared.device.DeviceFault.{DeviceFault}
use Rattle.rk_devices.specs.Shown.{ChildShown, Said, Writes, and_then}
use Rattle.rk_record.specs.Turns.{Noted}
use Rattle.rk_talk.specs.Replies.{ReplyFramed, reply_bytes}
use Rattle.rk_talk.specs.declared.saying.Saying.{Saying}
use Rattle.rk_talk.specs.declared.saying.Saying.TheVariants as saying
use Rattle.rk_child.specs.Replying.{EndsAsks, IsReplyTo}

-- these bytes of it
pub written_ends : (s : Saying) (r : Reply) (w : Result Unit DeviceFault) (bytes : List ℕ) (old new : ChildShown) → IsReplyTo s r → bytes ≡ reply_bytes r
    → Writes w bytes old new → EndsAsks (is_ok w) s old new
written_ends s r (Ok u) bytes old new is spelt wrote = (r, is, wrote ∙ ap (λ b. record old { story = and_then old.story (Said b ∷ []) }) spelt)
written_ends s r (Err e) bytes old new is spelt (rose, first, others, cut, wrote) = inr (r, is, rose, first, others, sym spelt ∙ cut, wrote)

-- the reply of a receipt's answer
pub framed_ends : (n : Noted) (w : Result Unit DeviceFault) (bytes : List ℕ) (old new : ChildShown) → ReplyFramed n.answer bytes → Writes w bytes old new
    → EndsAsks (is_ok w) (saying.Noted n) old new
framed_ends n w bytes old new (r, replied, spelt) wrote = written_ends (saying.Noted n) r w bytes old new (inl replied) spelt wrote
