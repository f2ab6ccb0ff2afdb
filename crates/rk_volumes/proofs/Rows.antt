-- Rows, events and answers: which row is of which.
use Rattle.rk_volumes.proofs.Words.{◌++◌, ap, ◌≡◌, ℕ, List, length, ◌∙◌, arith, sym, refl, ◌≢◌, ◌+◌, [], append_assoc, ◌<◌, ◌∷◌, Option, Some, None, ◌≤◌}
use Rattle.rk_volumes.proofs.Words.{length-append, to_be_bytes, w32, frame, errno_number, errno_named, Errno, SessionId, Client, Handler, asks_are_told, Ask}
use Rattle.rk_volumes.proofs.Words.{IsAsk, ask_message, spelling, Op, Subject, Event, Answer, How, Ran, Plain, Piped, Failed, session_kind, session_number}
use Rattle.rk_volumes.proofs.Words.{ran_kind, op_kind, how_kind, status_of, put_out, HasNoEvent, HasNoAnswer, NamesSession, NamesNone, IsNoEvent, IsNoAnswer}
use Rattle.rk_volumes.proofs.Words.{Row, row_bytes, event_row, answer_row, request_of, subject_bytes, IsSerial, IsSession, IsWord, IsSubject, IsPutOut, IsEvent}
use Rattle.rk_volumes.proofs.Words.{IsAnswer}
use Rattle.rk_names.specs.declared.errors.Errno.TheVariants as errno
use Rattle.rk_names.specs.Rules.{payload_fault}
use Rattle.rk_message.specs.declared.reply.Reply.{Reply}
use Rattle.rk_message.specs.Replies.{IsReply, reply_message}
use Rattle.rk_message.proofs.Replies.{replies_are_told}
use Rattle.rk_macro.specs.declared.subject.Op.TheVariants as op
use Rattle.rk_machine.specs.declared.event.How.TheVariants.{Exit, Signal, Fault}
use Rattle.rk_machine.specs.declared.event.EventOf.TheVariants as event
use Rattle.rk_machine.specs.declared.event.Answer.TheVariants as answer
use Rattle.rk_volumes.proofs.Fronts.{same_word}

-- ---- the parts of rows

pub row_len : (r : Row) → length (row_bytes r) ≡ 6 + length r.rest
row_len r = omega (arith, length-append (to_be_bytes w32 r.number) r.rest)

-- equal lists have equal heads and equal rests
pub second : (a b : ℕ) (x y : List ℕ) → a ∷ x ≡ b ∷ y → (a ≡ b) × (x ≡ y)
second a b x y e = (cc, cc)

abbrev made : ℕ → ℕ → ℕ → List ℕ → Row
made kind how number rest = record { kind = kind; how = how; number = number; rest = rest }

same_fields : (a b c x y z : ℕ) (r s : List ℕ) → a ≡ x → b ≡ y → c ≡ z → r ≡ s → made a b c r ≡ made x y z s
same_fields a b c x y z r s p q u v = ap (λ (k : ℕ). made k b c r) p ∙ ap (λ (k : ℕ). made x k c r) q ∙ ap (λ (k : ℕ). made x y k r) u ∙ ap (made x y z) v

-- rows with the same bytes are equal
pub same_row : (r s : Row) → IsWord r.number → IsWord s.number → row_bytes r ≡ row_bytes s → r ≡ s
same_row r s fitr fits e =
    let one = second r.kind s.kind (r.how ∷ (to_be_bytes w32 r.number ++ r.rest)) (s.how ∷ (to_be_bytes w32 s.number ++ s.rest)) e in
    let two = second r.how s.how (to_be_bytes w32 r.number ++ r.rest) (to_be_bytes w32 s.number ++ s.rest) one.1 in
    let three = same_word r.number s.number r.rest s.rest fitr fits two.1 in
    same_fields r.kind r.how r.number s.kind s.how s.number r.rest s.rest one.0 two.0 three.0 three.1

-- a serial fits four bytes
pub serial_fits : (k : ℕ) → IsSerial k → IsWord k
serial_fits k is = omega (arith, is.1)

session_fits : (s : SessionId) → IsSession s → IsWord (session_number s)
session_fits (Client n) is = is
session_fits (Handler k) is = serial_fits k is

-- so does the number in the row of an event
pub event_fits : (e : Event) → IsEvent e → IsWord (event_row e).number
event_fits (event.Opened s) is = session_fits s is
event_fits (event.Asked s a) is = session_fits s is.0
event_fits (event.Launched k ran) is = serial_fits k is
event_fits (event.Ended k how payload) is = serial_fits k is.0
event_fits (event.Collect s) is = session_fits s is
event_fits (event.Gone s) is = session_fits s is

zero_fits : IsWord 0
zero_fits = omega arith

-- so does the number in the row of an answer
pub answer_fits : (a : Answer) → IsAnswer a → IsWord (answer_row a).number
answer_fits (answer.Done r) is = zero_fits
answer_fits (answer.Start k s) is = serial_fits k is.0
answer_fits (answer.Negate k) is = serial_fits k is
answer_fits (answer.Waiting k) is = serial_fits k is
answer_fits (answer.Refused e) is = zero_fits

-- ---- kinds

pub same_session : (s t : SessionId) → session_kind s ≡ session_kind t → session_number s ≡ session_number t → s ≡ t
same_session (Client n) (Client m) k e = cc
same_session (Handler n) (Handler m) k e = cc
same_session _ _ k e = absurd cc

pub same_ran : (r s : Ran) → ran_kind r ≡ ran_kind s → r ≡ s
same_ran Plain Plain e = refl
same_ran Piped Piped e = refl
same_ran Failed Failed e = refl
same_ran _ _ e = absurd cc

pub same_how : (h g : How) → how_kind h ≡ how_kind g → status_of h ≡ status_of g → h ≡ g
same_how (Exit c) (Exit d) e f = cc
same_how Signal Signal e f = refl
same_how Fault Fault e f = refl
same_how _ _ e f = absurd cc

pub same_op : (o p : Op) → op_kind o ≡ op_kind p → o ≡ p
same_op op.Create op.Create e = refl
same_op op.Negate op.Negate e = refl
same_op _ _ e = absurd cc

empty_fails : payload_fault [] ≢ None
empty_fails e = absurd cc

pub same_put_out : (p q : Option (List ℕ)) → IsPutOut p → IsPutOut q → put_out p ≡ put_out q → p ≡ q
same_put_out None None is as-is e = refl
same_put_out None (Some b) is as-is e = absurd (empty_fails (ap payload_fault e ∙ as-is))
same_put_out (Some a) None is as-is e = absurd (empty_fails (ap payload_fault (sym e) ∙ is))
same_put_out (Some a) (Some b) is as-is e = cc

-- ---- the parts of a row that is an event's or an answer's

abbrev kind_of : Row → ℕ
kind_of r = r.kind

abbrev how_of : Row → ℕ
how_of r = r.how

abbrev number_of : Row → ℕ
number_of r = r.number

abbrev rest_of : Row → List ℕ
rest_of r = r.rest

-- ---- events

-- events of the same row are the same
pub same_event : (e f : Event) → IsEvent e → IsEvent f → event_row e ≡ event_row f → e ≡ f
same_event (event.Opened s) (event.Opened t) is other eq = ap event.Opened (same_session s t (ap how_of eq) (ap number_of eq))
same_event (event.Asked s a) (event.Asked t b) is other eq =
    let session = same_session s t (ap how_of eq) (ap number_of eq) in let ask = asks_are_told a b is.1 other.1 (ap rest_of eq) in cc
same_event (event.Launched k ran) (event.Launched l way) is other eq = let key = ap number_of eq in let how = same_ran ran way (ap how_of eq) in cc
same_event (event.Ended k how p) (event.Ended l way q) is other eq =
    let key = ap number_of eq in
    let parts = second (status_of how) (status_of way) (put_out p) (put_out q) (ap rest_of eq) in
    let ways = same_how how way (ap how_of eq) parts.0 in
    let payload = same_put_out p q is.2 other.2 parts.1 in
    cc
same_event (event.Collect s) (event.Collect t) is other eq = ap event.Collect (same_session s t (ap how_of eq) (ap number_of eq))
same_event (event.Gone s) (event.Gone t) is other eq = ap event.Gone (same_session s t (ap how_of eq) (ap number_of eq))
same_event _ _ is other eq = absurd (omega (arith, ap kind_of eq))

-- a row of no client or handler that is there
abbrev pub NamesNoneAlone : Row → Type 0
NamesNoneAlone r = r.rest ≡ [] → NamesNone r

pub no_opened : (r : Row) → r.kind ≡ 1 → NamesNoneAlone r → IsNoEvent r
no_opened r k none (event.Opened s) is eq = none (ap rest_of eq) s is (ap how_of eq, ap number_of eq)
no_opened r k none e is eq = omega (arith, k, ap kind_of eq)

pub no_collect : (r : Row) → r.kind ≡ 5 → NamesNoneAlone r → IsNoEvent r
no_collect r k none (event.Collect s) is eq = none (ap rest_of eq) s is (ap how_of eq, ap number_of eq)
no_collect r k none e is eq = omega (arith, k, ap kind_of eq)

pub no_gone : (r : Row) → r.kind ≡ 6 → NamesNoneAlone r → IsNoEvent r
no_gone r k none (event.Gone s) is eq = none (ap rest_of eq) s is (ap how_of eq, ap number_of eq)
no_gone r k none e is eq = omega (arith, k, ap kind_of eq)

pub no_asked : (r : Row) → r.kind ≡ 2 → ((s : SessionId) (a : Ask) → IsSession s → IsAsk a → NamesSession r s → r.rest ≢ spelling (ask_message a)) → IsNoEvent r
no_asked r k none (event.Asked s a) is eq = none s a is.0 is.1 (ap how_of eq, ap number_of eq) (ap rest_of eq)
no_asked r k none e is eq = omega (arith, k, ap kind_of eq)

pub no_launched : (r : Row) → r.kind ≡ 3 → ((k : ℕ) (ran : Ran) → IsSerial k → r.number ≡ k → r.how ≡ ran_kind ran → r.rest ≢ []) → IsNoEvent r
no_launched r k none (event.Launched key ran) is eq = none key ran is (ap number_of eq) (ap how_of eq) (ap rest_of eq)
no_launched r k none e is eq = omega (arith, k, ap kind_of eq)

pub no_ended : (r : Row) → r.kind ≡ 4
    → ((k : ℕ) (how : How) (p : Option (List ℕ)) → IsSerial k → IsPutOut p → r.number ≡ k → r.how ≡ how_kind how → r.rest ≢ status_of how ∷ put_out p)
    → IsNoEvent r
no_ended r k none (event.Ended key how p) is eq = none key how p is.0 is.2 (ap number_of eq) (ap how_of eq) (ap rest_of eq)
no_ended r k none e is eq = omega (arith, k, ap kind_of eq)

pub no_event_kind : (r : Row) → r.kind ≢ 1 → r.kind ≢ 2 → r.kind ≢ 3 → r.kind ≢ 4 → r.kind ≢ 5 → r.kind ≢ 6 → IsNoEvent r
no_event_kind r a b c d f g (event.Opened s) is eq = a (ap kind_of eq)
no_event_kind r a b c d f g (event.Asked s x) is eq = b (ap kind_of eq)
no_event_kind r a b c d f g (event.Launched k ran) is eq = c (ap kind_of eq)
no_event_kind r a b c d f g (event.Ended k how p) is eq = d (ap kind_of eq)
no_event_kind r a b c d f g (event.Collect s) is eq = f (ap kind_of eq)
no_event_kind r a b c d f g (event.Gone s) is eq = g (ap kind_of eq)

-- a row of no event, as bytes
pub no_event_in : (body : List ℕ) (r : Row) → IsWord r.number → body ≡ row_bytes r → IsNoEvent r → HasNoEvent body
no_event_in body r fits is none e event eq = none e event (same_row r (event_row e) fits (event_fits e event) (sym is ∙ eq))

pub no_short_event : (body : List ℕ) → length body < 6 → HasNoEvent body
no_short_event body short e is eq = omega (arith, short, ap length eq, row_len (event_row e))

-- ---- answers

errno_again : (e : Errno) → errno_named (errno_number e) ≡ Some e
errno_again errno.Eperm = refl
errno_again _ = refl

pub same_errno : (e f : Errno) → errno_number e ≡ errno_number f → e ≡ f
same_errno e f eq = let named = ap errno_named eq in let one = errno_again e in let other = errno_again f in cc

-- the names of a subject, as the body of a REQUEST
abbrev pub names_bytes : Subject → List ℕ
names_bytes s = spelling (ask_message (request_of s))

-- a subject's bytes from its session ring on
abbrev pub from_session : Subject → List ℕ
from_session s = to_be_bytes w32 s.session ++ names_bytes s

-- from its process ring on
abbrev pub from_process : Subject → List ℕ
from_process s = to_be_bytes w32 s.process ++ from_session s

-- from its thread ring on
abbrev pub from_thread : Subject → List ℕ
from_thread s = to_be_bytes w32 s.thread ++ from_process s

-- from its gid on
abbrev pub from_gid : Subject → List ℕ
from_gid s = to_be_bytes w32 s.gid ++ from_thread s

-- from its uid on
abbrev pub from_uid : Subject → List ℕ
from_uid s = to_be_bytes w32 s.uid ++ from_gid s

pub same_subject : (s t : Subject) → IsSubject s → IsSubject t → s.op ≡ t.op → subject_bytes s ≡ subject_bytes t → s ≡ t
same_subject s t is other op eq =
    let key = same_word s.key t.key (from_uid s) (from_uid t) (serial_fits s.key is.key) (serial_fits t.key other.key) eq in
    let uid = same_word s.uid t.uid (from_gid s) (from_gid t) is.uid other.uid key.1 in
    let gid = same_word s.gid t.gid (from_thread s) (from_thread t) is.gid other.gid uid.1 in
    let thread = same_word s.thread t.thread (from_process s) (from_process t) is.thread other.thread gid.1 in
    let process = same_word s.process t.process (from_session s) (from_session t) is.process other.process thread.1 in
    let session = same_word s.session t.session (names_bytes s) (names_bytes t) is.session other.session process.1 in
    let names : request_of s ≡ request_of t = asks_are_told (request_of s) (request_of t) is.names other.names session.1 in
    let typ : s.typ ≡ t.typ = cc in
    let desc : s.desc ≡ t.desc = cc in
    let callout : s.callout ≡ t.callout = cc in
    λ i. record {
      key = key.0 i;
      op = op i;
      typ = typ i;
      desc = desc i;
      callout = callout i;
      uid = uid.0 i;
      gid = gid.0 i;
      thread = thread.0 i;
      process = process.0 i;
      session = session.0 i;
    }

-- answers of the same row are the same
pub same_answer : (a b : Answer) → IsAnswer a → IsAnswer b → answer_row a ≡ answer_row b → a ≡ b
same_answer (answer.Done r) (answer.Done q) is other eq = ap answer.Done (replies_are_told r q is other (ap rest_of eq))
same_answer (answer.Start k s) (answer.Start l t) is other eq =
    let key = ap number_of eq in let subject = same_subject s t is.1 other.1 (same_op s.op t.op (ap how_of eq)) (ap rest_of eq) in cc
same_answer (answer.Negate k) (answer.Negate l) is other eq = ap answer.Negate (ap number_of eq)
same_answer (answer.Waiting k) (answer.Waiting l) is other eq = ap answer.Waiting (ap number_of eq)
same_answer (answer.Refused e) (answer.Refused f) is other eq = ap answer.Refused (same_errno e f (ap how_of eq))
same_answer _ _ is other eq = absurd (omega (arith, ap kind_of eq))

pub no_done : (r : Row) → r.kind ≡ 1 → ((reply : Reply) → IsReply reply → r.how ≡ 0 → r.number ≡ 0 → r.rest ≢ spelling (reply_message reply)) → IsNoAnswer r
no_done r k none (answer.Done reply) is eq = none reply is (ap how_of eq) (ap number_of eq) (ap rest_of eq)
no_done r k none a is eq = omega (arith, k, ap kind_of eq)

pub no_start : (r : Row) → r.kind ≡ 2
    → ((k : ℕ) (s : Subject) → IsSerial k → IsSubject s → r.number ≡ k → r.how ≡ op_kind s.op → r.rest ≢ subject_bytes s) → IsNoAnswer r
no_start r k none (answer.Start key s) is eq = none key s is.0 is.1 (ap number_of eq) (ap how_of eq) (ap rest_of eq)
no_start r k none a is eq = omega (arith, k, ap kind_of eq)

-- a row of no key that is there
abbrev pub HasNoKey : Row → Type 0
HasNoKey r = r.how ≡ 0 → r.rest ≡ [] → ¬ IsSerial r.number

key_of_row : (r : Row) (k : ℕ) → IsSerial k → r.number ≡ k → IsSerial r.number
key_of_row r k is eq = (omega (arith, is.0, eq), omega (arith, is.1, eq))

pub no_negate : (r : Row) → r.kind ≡ 3 → HasNoKey r → IsNoAnswer r
no_negate r k none (answer.Negate key) is eq = none (ap how_of eq) (ap rest_of eq) (key_of_row r key is (ap number_of eq))
no_negate r k none a is eq = omega (arith, k, ap kind_of eq)

pub no_waiting : (r : Row) → r.kind ≡ 4 → HasNoKey r → IsNoAnswer r
no_waiting r k none (answer.Waiting key) is eq = none (ap how_of eq) (ap rest_of eq) (key_of_row r key is (ap number_of eq))
no_waiting r k none a is eq = omega (arith, k, ap kind_of eq)

pub no_refused : (r : Row) → r.kind ≡ 5 → ((e : Errno) → r.number ≡ 0 → r.how ≡ errno_number e → r.rest ≢ []) → IsNoAnswer r
no_refused r k none (answer.Refused e) is eq = none e (ap number_of eq) (ap how_of eq) (ap rest_of eq)
no_refused r k none a is eq = omega (arith, k, ap kind_of eq)

pub no_answer_kind : (r : Row) → r.kind ≢ 1 → r.kind ≢ 2 → r.kind ≢ 3 → r.kind ≢ 4 → r.kind ≢ 5 → IsNoAnswer r
no_answer_kind r a b c d f (answer.Done x) is eq = a (ap kind_of eq)
no_answer_kind r a b c d f (answer.Start k s) is eq = b (ap kind_of eq)
no_answer_kind r a b c d f (answer.Negate k) is eq = c (ap kind_of eq)
no_answer_kind r a b c d f (answer.Waiting k) is eq = d (ap kind_of eq)
no_answer_kind r a b c d f (answer.Refused e) is eq = f (ap kind_of eq)

-- a row of no answer, as bytes
pub no_answer_in : (body : List ℕ) (r : Row) → IsWord r.number → body ≡ row_bytes r → IsNoAnswer r → HasNoAnswer body
no_answer_in body r fits is none a answer eq = none a answer (same_row r (answer_row a) fits (answer_fits a answer) (sym is ∙ eq))

pub no_short_answer : (body : List ℕ) → length body < 6 → HasNoAnswer body
no_short_answer body short a is eq = omega (arith, short, ap length eq, row_len (answer_row a))

-- ---- rows that are written

-- four writes, one after the other: a length, two bytes, a number and the rest
pub row_put : (o a b c d : List ℕ) (len : ℕ) (r : Row) → len ≡ 6 + length r.rest → a ≡ o ++ to_be_bytes w32 len → b ≡ a ++ (r.kind ∷ r.how ∷ [])
    → c ≡ b ++ to_be_bytes w32 r.number
    → d ≡ c ++ r.rest → d ≡ o ++ frame (row_bytes r)
row_put o a b c d len r is first second third fourth =
    let whole : len ≡ length (row_bytes r) = is ∙ sym (row_len r) in
    let l = to_be_bytes w32 len in
    let k : List ℕ = r.kind ∷ r.how ∷ [] in
    let n = to_be_bytes w32 r.number in
    fourth ∙ ap (λ (x : List ℕ). x ++ r.rest) (third ∙ ap (λ (x : List ℕ). x ++ n) (second ∙ ap (λ (x : List ℕ). x ++ k) first))
    ∙ append_assoc ((o ++ l) ++ k) n r.rest ∙ append_assoc (o ++ l) k (n ++ r.rest) ∙ append_assoc o l (k ++ (n ++ r.rest))
    ∙ ap (λ (m : ℕ). o ++ (to_be_bytes w32 m ++ row_bytes r)) whole

pub row_told : (r : Row) → length r.rest ≤ 131072 → IsWord (length (row_bytes r))
row_told r small = omega (arith, small, row_len r)
