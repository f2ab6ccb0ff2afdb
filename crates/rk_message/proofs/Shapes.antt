-- Each message of the table is an ask's, or a reply's.
use Rattle.rk_message.proofs.Words.{◌≡◌, refl, ℕ, sym, List, ◌∙◌, arith, true, false, Bool, ◌∷◌, Option, Some, None, subst, [], cond, suc, ◌<◌, eqb, ltb, zero}
use Rattle.rk_message.proofs.Words.{◌^◌, ℤ, eqb-true, ltb-true, w32, IsSomeAnd, FitsSigned, is_some, key_error_named, errno_number, errno_named, Errno}
use Rattle.rk_message.proofs.Words.{KeyError, Ask, ask_message, IsAsk, flag_bits, error_number, reply_message, IsReply, asks, replies, Message, Value, U8, U32}
use Rattle.rk_message.proofs.Words.{Kind, Fields, kinds_of, I32, Blob, Maybe, IsMessage, IsValue, Byte, Word, Signed, Block, Optional, IsBlock, AreValues}
use Rattle.rk_message.proofs.Words.{Reply}
use Rattle.rk_names.specs.declared.errors.Errno.TheVariants as errno
use Rattle.rk_names.specs.declared.errors.KeyError.TheVariants as error
use Rattle.rk_message.specs.declared.ask.AskOf.TheVariants as ask
use Rattle.rk_message.specs.declared.reply.Reply.TheVariants as reply

-- P of any fields of the kinds
abbrev pub ForFields : List Kind → (List Value → Type 0) → Type 0
ForFields [] P = P []
ForFields (Byte passes ∷ ks) P = (n : ℕ) → (n < 2 ^ 8) × (passes n ≡ true) → ForFields ks (λ vs. P (U8 n ∷ vs))
ForFields (Word passes ∷ ks) P = (n : ℕ) → (n < 2 ^ 32) × (passes n ≡ true) → ForFields ks (λ vs. P (U32 n ∷ vs))
ForFields (Signed ∷ ks) P = (z : ℤ) → FitsSigned w32 z → ForFields ks (λ vs. P (I32 z ∷ vs))
ForFields (Block rule ∷ ks) P = (bytes : List ℕ) → IsBlock rule bytes → ForFields ks (λ vs. P (Blob bytes ∷ vs))
ForFields (Optional rule ∷ ks) P = (bytes : Option (List ℕ)) → IsValue (Optional rule) (Maybe bytes) → ForFields ks (λ vs. P (Maybe bytes ∷ vs))

-- fields that are of the kinds are such fields
pub for_fields : (ks : List Kind) (P : List Value → Type 0) → ForFields ks P → (vs : List Value) → AreValues ks vs → P vs
for_fields [] P all [] fits = all
for_fields [] P all (v ∷ vs) fits = absurd fits
for_fields (k ∷ ks) P all [] fits = absurd fits
for_fields (Byte passes ∷ ks) P all (U8 n ∷ vs) fits = for_fields ks (λ vs. P (U8 n ∷ vs)) (all n fits.0) vs fits.1
for_fields (Word passes ∷ ks) P all (U32 n ∷ vs) fits = for_fields ks (λ vs. P (U32 n ∷ vs)) (all n fits.0) vs fits.1
for_fields (Signed ∷ ks) P all (I32 z ∷ vs) fits = for_fields ks (λ vs. P (I32 z ∷ vs)) (all z fits.0) vs fits.1
for_fields (Block rule ∷ ks) P all (Blob bytes ∷ vs) fits = for_fields ks (λ vs. P (Blob bytes ∷ vs)) (all bytes fits.0) vs fits.1
for_fields (Optional rule ∷ ks) P all (Maybe bytes ∷ vs) fits = for_fields ks (λ vs. P (Maybe bytes ∷ vs)) (all bytes fits.0) vs fits.1
for_fields (Byte passes ∷ ks) P all (v ∷ vs) fits = absurd fits.0
for_fields (Word passes ∷ ks) P all (v ∷ vs) fits = absurd fits.0
for_fields (Signed ∷ ks) P all (v ∷ vs) fits = absurd fits.0
for_fields (Block rule ∷ ks) P all (v ∷ vs) fits = absurd fits.0
for_fields (Optional rule ∷ ks) P all (v ∷ vs) fits = absurd fits.0

-- P of each message of the table
abbrev pub ForLines : Fields → (Message → Type 0) → Type 0
ForLines [] P = Unit {0}
ForLines (line ∷ lines) P = ForFields line.1 (λ vs. P (record { op = line.0; values = vs })) × ForLines lines P

in_line : (P : Message → Type 0) (k : ℕ) (ks : List Kind) (m : Message) (b : Bool) (others : Option (List Kind)) → (b ≡ true → m.op ≡ k) → ForFields ks (λ vs. P (record { op = k; values = vs }))
    → (IsSomeAnd others (λ ks. AreValues ks m.values) → P m) → IsSomeAnd (cond b (Some ks) others) (λ ks. AreValues ks m.values) → P m
in_line P k ks m true others same here later is =
    subst (λ (n : ℕ). P (record { op = n; values = m.values })) (sym (same refl)) (for_fields ks (λ vs. P (record { op = k; values = vs })) here m.values is)
in_line P k ks m false others same here later is = later is

-- a message of the table is one of its lines'
pub for_lines : (lines : Fields) (P : Message → Type 0) → ForLines lines P → (m : Message) → IsMessage lines m → P m
for_lines [] P all m is = absurd is
for_lines (line ∷ lines) P all m is =
    in_line P line.0 line.1 m (eqb m.op line.0) (kinds_of lines m.op) (λ e. eqb-true m.op line.0 e) all.0 (for_lines lines P all.1 m) is

-- a line, and the others
line : {A B : Type 0} → A → B → A × B
line a b = (a, b)

-- the message is an ask's
abbrev pub ToldAsk : Message → Type 0
ToldAsk m = (a : Ask) × IsAsk a × (ask_message a ≡ m)

-- two bits are two answers
bits : (n : ℕ) → ltb n 4 ≡ true → (thread : Bool) × (process : Bool) × (flag_bits thread process ≡ n)
bits zero lt = (false, false, refl)
bits (suc zero) lt = (true, false, refl)
bits (suc (suc zero)) lt = (false, true, refl)
bits (suc (suc (suc zero))) lt = (true, true, refl)
bits (suc (suc (suc (suc n)))) lt = absurd (let below : suc (suc (suc (suc n))) < 4 = ltb-true (suc (suc (suc (suc n)))) 4 lt in omega arith)

-- one with the number, where a table has one
named_step : {E : Type 0} (number : E → ℕ) (n k : ℕ) (e : E) (others : Option E) → number e ≡ k → (is_some others ≡ true → (d : E) × (number d ≡ n))
    → is_some (cond (eqb n k) (Some e) others) ≡ true → (d : E) × (number d ≡ n)
named_step {E} number n k e others is later some = by_test (eqb n k) refl some
  where
    by_test : (b : Bool) → eqb n k ≡ b → is_some (cond b (Some e) others) ≡ true → (d : E) × (number d ≡ n)
    by_test true same some = (e, is ∙ sym (eqb-true n k same))
    by_test false same some = later some

errors : (n : ℕ) → is_some (key_error_named n) ≡ true → (e : KeyError) × (error_number e ≡ n)
errors n =
    named_step error_number n 126 error.NoKey _ refl (
    named_step error_number n 127 error.Expired _ refl (
    named_step error_number n 128 error.Revoked _ refl (
    named_step error_number n 129 error.Rejected None refl (λ none. absurd cc))))

hello : (uid gid few number : ℕ) (thread process : Bool) → uid < 2 ^ 32 → gid < 2 ^ 32 → flag_bits thread process ≡ few → few < 2 ^ 8 → ltb few 4 ≡ true
    → (number < 2 ^ 32) × (ltb number 2147483648 ≡ true) → ToldAsk (record { op = 1; values = U32 uid ∷ U32 gid ∷ U8 few ∷ U32 number ∷ [] })
hello uid gid few zero thread process u g same byte below j =
    (ask.Hello (record { uid = uid; gid = gid; thread = thread; process = process; join = None }), (((u, refl), ((g, refl), ((rw same byte, rw same below), (j, tt)))), tt), rw same refl)
hello uid gid few (suc number) thread process u g same byte below j =
    (ask.Hello (record { uid = uid; gid = gid; thread = thread; process = process; join = Some (suc number) }), (((u, refl), ((g, refl), ((rw same byte, rw same below), (j, tt)))), omega arith), rw same refl)

-- each message of the table is an ask's
pub asks_are_all : (m : Message) → IsMessage asks m → ToldAsk m
asks_are_all = for_lines asks ToldAsk (
    line (λ uid u gid g n f join j. let b = bits n f.1 in hello uid gid n join b.0 b.1 u.0 g.0 b.2 f.0 f.1 j) (
    line (λ typ t description d callout c destination z. (ask.Request typ description callout destination, ((t, (d, (c, (z, tt)))), tt), refl)) (
    line (λ key k. (ask.Assume key, ((k, tt), tt), refl)) (
    line (λ key k payload p ring r. (ask.Instantiate key payload ring, ((k, (p, (r, tt))), tt), refl)) (
    line (λ key k timeout t ring r. (ask.Negate key timeout ring, ((k, (t, (r, tt))), tt), refl)) (
    line (λ key k timeout t n e ring r. let named = errors n e.1 in
    (ask.Reject key timeout named.0 ring, ((k, (t, (rw named.1 e, (r, tt)))), tt), rw named.1 refl)) (
    line (λ key k. (ask.Read key, ((k, tt), tt), refl)) (
    line (λ key k. (ask.Describe key, ((k, tt), tt), refl)) (
    line (λ key k. (ask.Revoke key, ((k, tt), tt), refl)) (
    line (λ key k seconds s. (ask.Timeout key seconds, ((k, (s, tt)), tt), refl)) (
    line (λ key k ring r. (ask.Link key ring, ((k, (r, tt)), tt), refl)) (
    line (λ key k ring r. (ask.Unlink key ring, ((k, (r, tt)), tt), refl)) (
    line (λ ring r. (ask.Clear ring, ((r, tt), tt), refl)) (
    line (λ setting s. (ask.Default setting, ((s, tt), tt), refl)) (
    line (λ typ t description d payload p ring r. (ask.Add typ description payload ring, ((t, (d, (p, (r, tt)))), tt), refl)) (
    line (ask.Callout, (tt, tt), refl) tt))))))))))))))))

-- the message is a reply's
abbrev pub ToldReply : Message → Type 0
ToldReply m = (r : Reply) × IsReply r × (reply_message r ≡ m)

errnos : (n : ℕ) → is_some (errno_named n) ≡ true → (e : Errno) × (errno_number e ≡ n)
errnos n =
    named_step errno_number n 1 errno.Eperm _ refl (
    named_step errno_number n 2 errno.Enoent _ refl (
    named_step errno_number n 12 errno.Enomem _ refl (
    named_step errno_number n 13 errno.Eacces _ refl (
    named_step errno_number n 16 errno.Ebusy _ refl (
    named_step errno_number n 22 errno.Einval _ refl (
    named_step errno_number n 35 errno.Edeadlk _ refl (
    named_step errno_number n 122 errno.Edquot _ refl (
    named_step errno_number n 126 errno.Enokey _ refl (
    named_step errno_number n 127 errno.Ekeyexpired _ refl (
    named_step errno_number n 128 errno.Ekeyrevoked _ refl (
    named_step errno_number n 129 errno.Ekeyrejected None refl (λ none. absurd cc))))))))))))

-- each message of the table is a reply's
pub replies_are_all : (m : Message) → IsMessage replies m → ToldReply m
replies_are_all = for_lines replies ToldReply (
    line (λ n f. (reply.Number n, (f, tt), refl)) (
    line (λ bytes b. (reply.Bytes bytes, (b, tt), refl)) (
    line (λ thread t process p session s user u. (reply.Rings thread process session user, (t, (p, (s, (u, tt)))), refl)) (
    line (λ n e. let named = errnos n e.1 in (reply.Refused named.0, (rw named.1 e, tt), rw named.1 refl)) tt))))
