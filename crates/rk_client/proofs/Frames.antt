-- A reply's frame at the front of what is left to read, and what shows that there is none.
use Rattle.std.proofs.Common.{◌≡◌, ℕ, ◌^◌, ◌<◌, List, ◌++◌, length, take, refl, sym, ap, ◌∙◌, append_assoc, arith, ◌⊎◌, inl, inr}
use Rattle.std.proofs.Common.{Option, Some, None, IfSome}
use Rattle.std.specs.Int.{w32, to_be_bytes, from_be_bytes}
use Rattle.std.specs.Io.KnownBytes.{Consumes}
use Rattle.std.proofs.lemmas.List.{take_at, drop_at}
use Rattle.std.proofs.lemmas.Nat.{from_be_bytes-to_be_bytes_4}
use Rattle.rk_frame.specs.Framing.{IsBody, HasNoFrame}
use Rattle.rk_frame.proofs.Lengths.{front_len, shows, none_empty, none_long}
use Rattle.rk_message.specs.declared.reply.Reply.{Reply}
use Rattle.rk_message.specs.Wire.{spelling}
use Rattle.rk_message.specs.Replies.{IsReply, reply_message}
use Rattle.rk_message.proofs.Lengths.{reply_fits}
use Rattle.rk_client.specs.Peer.{reply_frame, HasNoReply, SpellsNoReply}

-- a length and a body that were read one after the other are the reply's frame
pub consumed : (old mid new : Option (List ℕ)) (n : ℕ) (r : Reply) → Consumes old mid (to_be_bytes w32 n) → Consumes mid new (spelling (reply_message r))
    → length (spelling (reply_message r)) ≡ n → Consumes old new (reply_frame r)
consumed None mid new n r a b e = tt
consumed (Some xs) None new n r a b e = absurd a
consumed (Some xs) (Some ys) None n r a b e = absurd b
consumed (Some xs) (Some ys) (Some zs) n r a b e =
    a ∙ ap (λ (t : List ℕ). to_be_bytes w32 n ++ t) b ∙ sym (append_assoc (to_be_bytes w32 n) (spelling (reply_message r)) zs)
    ∙ ap (λ (k : ℕ). (to_be_bytes w32 k ++ spelling (reply_message r)) ++ zs) (sym e)

is_body : (r : Reply) → IsReply r → IsBody (spelling (reply_message r))
is_body r is = (omega arith, reply_fits r is)

front : (n : ℕ) (ys : List ℕ) → n < 2 ^ 32 → front_len (to_be_bytes w32 n ++ ys) ≡ n
front n ys small = ap (from_be_bytes w32) (take_at (to_be_bytes w32 n) ys 4 refl) ∙ from_be_bytes-to_be_bytes_4 n small

no_frame : (n : ℕ) (ys : List ℕ) → n < 2 ^ 32 → (n ≡ 0) ⊎ (65536 < n) → HasNoFrame (to_be_bytes w32 n ++ ys)
no_frame n ys small (inl z) = none_empty (to_be_bytes w32 n ++ ys) (front n ys small ∙ z)
no_frame n ys small (inr gt) = none_long (to_be_bytes w32 n ++ ys) (let e = front n ys small in omega (arith, gt, e))

-- a length that no frame has
pub no_length : (old mid : Option (List ℕ)) (n : ℕ) → Consumes old mid (to_be_bytes w32 n) → n < 2 ^ 32 → (n ≡ 0) ⊎ (65536 < n) → IfSome old HasNoReply
no_length None mid n a small bad = tt
no_length (Some xs) None n a small bad = absurd a
no_length (Some xs) (Some ys) n a small bad = λ r more is e. no_frame n ys small bad (spelling (reply_message r)) more (is_body r is) (sym a ∙ e)

same_body : (n : ℕ) (body ys zs : List ℕ) (r : Reply) (more : List ℕ) → n < 2 ^ 32 → length body ≡ n → IsReply r → ys ≡ body ++ zs
    → to_be_bytes w32 n ++ ys ≡ reply_frame r ++ more → body ≡ spelling (reply_message r)
same_body n body ys zs r more small e is split same =
    let s = shows (to_be_bytes w32 n ++ ys) (spelling (reply_message r)) more (is_body r is) same in
    let behind : body ++ zs ≡ spelling (reply_message r) ++ more = sym split ∙ sym (drop_at (to_be_bytes w32 n) ys 4 refl) ∙ s.after in
    let long : length (spelling (reply_message r)) ≡ length body = sym s.len ∙ front n ys small ∙ sym e in
    sym (take_at body zs (length body) refl) ∙ ap (take (length body)) behind ∙ take_at (spelling (reply_message r)) more (length body) long

-- a body that spells no reply
pub no_body : (old mid new : Option (List ℕ)) (n : ℕ) (body : List ℕ) → n < 2 ^ 32 → Consumes old mid (to_be_bytes w32 n) → Consumes mid new body
    → length body ≡ n → SpellsNoReply body → IfSome old HasNoReply
no_body None mid new n body small a b e none = tt
no_body (Some xs) None new n body small a b e none = absurd a
no_body (Some xs) (Some ys) None n body small a b e none = absurd b
no_body (Some xs) (Some ys) (Some zs) n body small a b e none = λ r more is same. none r is (same_body n body ys zs r more small e is b (sym a ∙ same))
