-- Lengths of spellings, and what several writes at the end come to.
use Rattle.rk_message.proofs.Words.{◌≡◌, ap, refl, ℕ, sym, List, ◌∙◌, arith, true, false, Bool, ◌∷◌, Option, Some, None, length, [], cond, suc, eqb, ltb, ◌++◌}
use Rattle.rk_message.proofs.Words.{◌≤◌, append_assoc, ◌+◌, ltb-false, append-nil, flat_map-cons, flat_map, Ask, ask_message, IsAsk, ask_values, reply_message}
use Rattle.rk_message.proofs.Words.{IsReply, refusal, type_rule, description_rule, callout_rule, payload_rule, reply_rule, Value, spelling, U8, U32, I32, Blob}
use Rattle.rk_message.proofs.Words.{Maybe, spelled, Reply}
use Rattle.std.proofs.Common.{length-append}
use Rattle.rk_names.specs.declared.errors.NameFault.{NameFault}
use Rattle.rk_names.specs.Rules.{type_fault, description_fault, callout_fault, payload_fault}
use Rattle.rk_message.specs.declared.ask.AskOf.TheVariants as ask
use Rattle.rk_message.specs.declared.reply.Reply.TheVariants as reply

join2 : (o p q a b : List ℕ) → p ≡ o ++ a → q ≡ p ++ b → q ≡ o ++ (a ++ b)
join2 o p q a b e f = f ∙ ap (λ (x : List ℕ). x ++ b) e ∙ append_assoc o a b

join4 : (o p q r s a b c d : List ℕ) → p ≡ o ++ a → q ≡ p ++ b → r ≡ q ++ c → s ≡ r ++ d → s ≡ o ++ (a ++ (b ++ (c ++ d)))
join4 o p q r s a b c d e f g h = join2 o p s a (b ++ (c ++ d)) e (join2 p q s b (c ++ d) f (join2 q r s c d g h))

-- five writes, one after another
pub join5 : (o p q r s t a b c d x : List ℕ) → p ≡ o ++ a → q ≡ p ++ b → r ≡ q ++ c → s ≡ r ++ d → t ≡ s ++ x → t ≡ o ++ (a ++ (b ++ (c ++ (d ++ (x ++ [])))))
join5 o p q r s t a b c d x e f g h i =
    join2 o p t a (b ++ (c ++ (d ++ (x ++ [])))) e (join4 p q r s t b c d (x ++ []) f g h (i ∙ ap (λ (y : List ℕ). s ++ y) (sym (append-nil x))))

-- how many bytes a field has
abbrev width : Value → ℕ
width (U8 n) = 1
width (U32 n) = 4
width (I32 z) = 4
width (Blob bytes) = 2 + length bytes
width (Maybe None) = 1
width (Maybe (Some bytes)) = 3 + length bytes

length-spelled : (v : Value) → length (spelled v) ≡ width v
unfolding spelled
length-spelled (Blob bytes) = omega arith
length-spelled (Maybe (Some bytes)) = omega arith
length-spelled _ = refl

abbrev widths : List Value → ℕ
widths [] = 0
widths (v ∷ vs) = width v + widths vs

length-values : (vs : List Value) → length (flat_map spelled vs) ≡ widths vs
length-values [] = refl
length-values (v ∷ vs) = rw (flat_map-cons, length-append) (omega (arith, length-spelled v, length-values vs))

under : (vs : List Value) (limit : ℕ) → widths vs ≤ limit → suc (length (flat_map spelled vs)) ≤ suc limit
under vs limit le = omega (arith, length-values vs)

refusal_none : (o : Option NameFault) → refusal o ≡ None → o ≡ None
refusal_none None e = refl
refusal_none (Some f) e = absurd cc

-- a test that did not refuse
passed : {E : Type 0} (b : Bool) (e : E) (others : Option E) → cond b (Some e) others ≡ None → (b ≡ false) × (others ≡ None)
passed true e others is = absurd cc
passed false e others is = (refl, is)

-- a length that is neither 0 nor above a limit
within : {E : Type 0} (n limit : ℕ) (zero over : E) (others : Option E) → cond (eqb n 0) (Some zero) (cond (ltb limit n) (Some over) others) ≡ None → n ≤ limit
within n limit zero over others is = ltb-false limit n (passed (ltb limit n) over others (passed (eqb n 0) zero _ is).1).0

type_len : (bytes : List ℕ) → type_rule bytes ≡ None → length bytes ≤ 31
type_len bytes is = within (length bytes) 31 _ _ _ (refusal_none (type_fault bytes) is)

description_len : (bytes : List ℕ) → description_rule bytes ≡ None → length bytes ≤ 4095
description_len bytes is = within (length bytes) 4095 _ _ _ (refusal_none (description_fault bytes) is)

payload_len : (bytes : List ℕ) → payload_rule bytes ≡ None → length bytes ≤ 32767
payload_len bytes is = within (length bytes) 32767 _ _ _ (refusal_none (payload_fault bytes) is)

callout_len : (bytes : List ℕ) → callout_rule bytes ≡ None → length bytes ≤ 4095
callout_len bytes is = ltb-false 4095 (length bytes) (passed (ltb 4095 (length bytes)) _ _ (refusal_none (callout_fault bytes) is)).0

reply_len : (bytes : List ℕ) → reply_rule bytes ≡ None → length bytes ≤ 65533
reply_len bytes is = let first = passed (ltb 65533 (length bytes)) _ _ is in ltb-false 65533 (length bytes) first.0

ask_width : (a : Ask) → IsAsk a → widths (ask_values a) ≤ 65535
ask_width (ask.Request typ description None destination) is = omega (arith, type_len typ is.0.0.1, description_len description is.0.1.0.1)
ask_width (ask.Request typ description (Some callout) destination) is =
    omega (arith, type_len typ is.0.0.1, description_len description is.0.1.0.1, callout_len callout is.0.1.1.0.1)
ask_width (ask.Instantiate key payload ring) is = omega (arith, payload_len payload is.0.1.0.1)
ask_width (ask.Add typ description payload ring) is =
    omega (arith, type_len typ is.0.0.1, description_len description is.0.1.0.1, payload_len payload is.0.1.1.0.1)
ask_width _ is = omega arith

-- an ask fits a frame
pub ask_fits : (a : Ask) → IsAsk a → length (spelling (ask_message a)) ≤ 65536
ask_fits a is = under (ask_values a) 65535 (ask_width a is)

reply_width : (a : Reply) → IsReply a → widths ((reply_message a).values) ≤ 65535
reply_width (reply.Bytes bytes) is = omega (arith, reply_len bytes is.0.1)
reply_width _ is = omega arith

-- a reply fits a frame
pub reply_fits : (a : Reply) → IsReply a → length (spelling (reply_message a)) ≤ 65536
reply_fits a is = under ((reply_message a).values) 65535 (reply_width a is)
