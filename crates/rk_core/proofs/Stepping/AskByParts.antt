-- The gate, for one who acts and for nobody.
use Rattle.rk_core.proofs.Words.{◌≡◌, ℕ, Bool, true, false, not, [], ◌∷◌, refl, sym, ap, ◌∙◌, subst, ℤ, Option, Some, None, is_some, is_none, MatchOption}
use Rattle.rk_core.proofs.Words.{if◌then◌else◌, MatchBool, SessionId, Client, Handler, Errno, Ask, Asked, Answer, Refused, World, first_of, refused_if, Tells}
use Rattle.rk_core.proofs.Words.{Unless, Asker, asker_of, Reads, gate, ask_refusal, Asking, Step, unless_some, only_one, session_refusal, is_hello, is_first}
use Rattle.rk_names.specs.declared.errors.Errno.TheVariants as errno
use Rattle.rk_message.specs.declared.ask.AskOf.TheVariants as ask

-- ---- what the gate says

-- an ask other than HELLO and ASSUME asks for someone who acts
abbrev for_who_acts : Option Asker → Option Errno
for_who_acts o = refused_if (is_none o) errno.Eacces

-- a HELLO of one who acts, and of a handler for which nobody does
abbrev greeted_already : Option Asker → Option Errno
greeted_already o = refused_if (is_some o) errno.Einval

abbrev no_client : Option Asker → Option Errno
no_client o = Some (if is_none o then errno.Eacces else errno.Einval)

-- one who acts may ask anything but HELLO
gate_of_acting : (w : World) (s : SessionId) (x : Ask) (asker : Asker) → asker_of w s ≡ Some asker → gate w s x ≡ refused_if (is_hello x) errno.Einval
gate_of_acting w (Client n) (ask.Hello hello) asker is = ap greeted_already is
gate_of_acting w (Client n) (ask.Request typ description callout destination) asker is = ap for_who_acts is
gate_of_acting w (Client n) (ask.Assume key) asker is = ap for_who_acts is
gate_of_acting w (Client n) (ask.Instantiate key payload ring) asker is = ap for_who_acts is
gate_of_acting w (Client n) (ask.Negate key timeout ring) asker is = ap for_who_acts is
gate_of_acting w (Client n) (ask.Reject key timeout error ring) asker is = ap for_who_acts is
gate_of_acting w (Client n) (ask.Read key) asker is = ap for_who_acts is
gate_of_acting w (Client n) (ask.Describe key) asker is = ap for_who_acts is
gate_of_acting w (Client n) (ask.Revoke key) asker is = ap for_who_acts is
gate_of_acting w (Client n) (ask.Timeout key seconds) asker is = ap for_who_acts is
gate_of_acting w (Client n) (ask.Link key ring) asker is = ap for_who_acts is
gate_of_acting w (Client n) (ask.Unlink key ring) asker is = ap for_who_acts is
gate_of_acting w (Client n) (ask.Clear ring) asker is = ap for_who_acts is
gate_of_acting w (Client n) (ask.Default setting) asker is = ap for_who_acts is
gate_of_acting w (Client n) (ask.Add typ description payload ring) asker is = ap for_who_acts is
gate_of_acting w (Client n) ask.Callout asker is = ap for_who_acts is
gate_of_acting w (Handler k) (ask.Hello hello) asker is = ap no_client is
gate_of_acting w (Handler k) (ask.Request typ description callout destination) asker is = ap for_who_acts is
gate_of_acting w (Handler k) (ask.Assume key) asker is = refl
gate_of_acting w (Handler k) (ask.Instantiate key payload ring) asker is = ap for_who_acts is
gate_of_acting w (Handler k) (ask.Negate key timeout ring) asker is = ap for_who_acts is
gate_of_acting w (Handler k) (ask.Reject key timeout error ring) asker is = ap for_who_acts is
gate_of_acting w (Handler k) (ask.Read key) asker is = ap for_who_acts is
gate_of_acting w (Handler k) (ask.Describe key) asker is = ap for_who_acts is
gate_of_acting w (Handler k) (ask.Revoke key) asker is = ap for_who_acts is
gate_of_acting w (Handler k) (ask.Timeout key seconds) asker is = ap for_who_acts is
gate_of_acting w (Handler k) (ask.Link key ring) asker is = ap for_who_acts is
gate_of_acting w (Handler k) (ask.Unlink key ring) asker is = ap for_who_acts is
gate_of_acting w (Handler k) (ask.Clear ring) asker is = ap for_who_acts is
gate_of_acting w (Handler k) (ask.Default setting) asker is = ap for_who_acts is
gate_of_acting w (Handler k) (ask.Add typ description payload ring) asker is = ap for_who_acts is
gate_of_acting w (Handler k) ask.Callout asker is = ap for_who_acts is

-- if nobody acts, a client may ask HELLO and a handler ASSUME
gate_of_nobody : (w : World) (s : SessionId) (x : Ask) → asker_of w s ≡ None → gate w s x ≡ refused_if (not (is_first s x)) errno.Eacces
gate_of_nobody w (Client n) (ask.Hello hello) is = ap greeted_already is
gate_of_nobody w (Client n) (ask.Request typ description callout destination) is = ap for_who_acts is
gate_of_nobody w (Client n) (ask.Assume key) is = ap for_who_acts is
gate_of_nobody w (Client n) (ask.Instantiate key payload ring) is = ap for_who_acts is
gate_of_nobody w (Client n) (ask.Negate key timeout ring) is = ap for_who_acts is
gate_of_nobody w (Client n) (ask.Reject key timeout error ring) is = ap for_who_acts is
gate_of_nobody w (Client n) (ask.Read key) is = ap for_who_acts is
gate_of_nobody w (Client n) (ask.Describe key) is = ap for_who_acts is
gate_of_nobody w (Client n) (ask.Revoke key) is = ap for_who_acts is
gate_of_nobody w (Client n) (ask.Timeout key seconds) is = ap for_who_acts is
gate_of_nobody w (Client n) (ask.Link key ring) is = ap for_who_acts is
gate_of_nobody w (Client n) (ask.Unlink key ring) is = ap for_who_acts is
gate_of_nobody w (Client n) (ask.Clear ring) is = ap for_who_acts is
gate_of_nobody w (Client n) (ask.Default setting) is = ap for_who_acts is
gate_of_nobody w (Client n) (ask.Add typ description payload ring) is = ap for_who_acts is
gate_of_nobody w (Client n) ask.Callout is = ap for_who_acts is
gate_of_nobody w (Handler k) (ask.Hello hello) is = ap no_client is
gate_of_nobody w (Handler k) (ask.Request typ description callout destination) is = ap for_who_acts is
gate_of_nobody w (Handler k) (ask.Assume key) is = refl
gate_of_nobody w (Handler k) (ask.Instantiate key payload ring) is = ap for_who_acts is
gate_of_nobody w (Handler k) (ask.Negate key timeout ring) is = ap for_who_acts is
gate_of_nobody w (Handler k) (ask.Reject key timeout error ring) is = ap for_who_acts is
gate_of_nobody w (Handler k) (ask.Read key) is = ap for_who_acts is
gate_of_nobody w (Handler k) (ask.Describe key) is = ap for_who_acts is
gate_of_nobody w (Handler k) (ask.Revoke key) is = ap for_who_acts is
gate_of_nobody w (Handler k) (ask.Timeout key seconds) is = ap for_who_acts is
gate_of_nobody w (Handler k) (ask.Link key ring) is = ap for_who_acts is
gate_of_nobody w (Handler k) (ask.Unlink key ring) is = ap for_who_acts is
gate_of_nobody w (Handler k) (ask.Clear ring) is = ap for_who_acts is
gate_of_nobody w (Handler k) (ask.Default setting) is = ap for_who_acts is
gate_of_nobody w (Handler k) (ask.Add typ description payload ring) is = ap for_who_acts is
gate_of_nobody w (Handler k) ask.Callout is = ap for_who_acts is

-- ---- an ask, step by step

passed_both : (a b c : Option Errno) → first_of (a ∷ b ∷ []) ≡ None → first_of (a ∷ b ∷ c ∷ []) ≡ first_of (c ∷ [])
passed_both None None c e = refl
passed_both None (Some b) c e = absurd (cc)
passed_both (Some a) b c e = absurd (cc)

refused_before : (a b c : Option Errno) (error : Errno) → first_of (a ∷ b ∷ []) ≡ Some error → first_of (a ∷ b ∷ c ∷ []) ≡ Some error
refused_before None None c error e = absurd (cc)
refused_before None (Some b) c error e = e
refused_before (Some a) b c error e = e

-- the gate alone is left
the_gate : (w : World) (s : SessionId) (x : Ask) → session_refusal w s ≡ None → ask_refusal w s x ≡ gate w s x
the_gate w s x free = passed_both _ _ (gate w s x) free ∙ only_one (gate w s x)

unless_so : (b : Bool) (error : Errno) (old : World) (a : Answer) (new : World) (P : Type 0) → MatchBool b (Tells (Refused error) old a new) P
    → Unless (refused_if b error) old a new P
unless_so true error old a new P h = h
unless_so false error old a new P h = h

unless_else : (b : Bool) (error : Errno) (old : World) (a : Answer) (new : World) (P : Type 0) → MatchBool b P (Tells (Refused error) old a new)
    → Unless (refused_if (not b) error) old a new P
unless_else true error old a new P h = h
unless_else false error old a new P h = h

-- an ask of a session that may not ask is refused with that error, and changes nothing
pub session_refused : (old : World) (now : ℕ) (s : SessionId) (x : Ask) (error : Errno) → session_refusal old s ≡ Some error
    → Step old now (Asked s x) (Refused error) old
unfolding Step
session_refused old now s x error is = unless_some (ask_refusal old s x) error old _ (refused_before _ _ (gate old s x) error is)

-- an ask of one who acts is a step, but HELLO, which is refused with EINVAL
pub acts_so : (old : World) (now : ℕ) (s : SessionId) (x : Ask) (asker : Asker) (a : Answer) (new : World) → session_refusal old s ≡ None
    → asker_of old s ≡ Some asker → MatchBool (is_hello x) (Tells (Refused errno.Einval) old a new) (Asking old now s x a new)
    → Step old now (Asked s x) a new
unfolding Step
acts_so old now s x asker a new free acts h =
    subst (λ (o : Option Errno). Unless o old a new (Asking old now s x a new)) (sym (the_gate old s x free ∙ gate_of_acting old s x asker acts))
    (unless_so (is_hello x) errno.Einval old a new (Asking old now s x a new) h)

-- if nobody acts, a client's HELLO and a handler's ASSUME are steps, and any other ask is refused with EACCES
pub asks_first : (old : World) (now : ℕ) (s : SessionId) (x : Ask) (a : Answer) (new : World) → session_refusal old s ≡ None
    → asker_of old s ≡ None → MatchBool (is_first s x) (Asking old now s x a new) (Tells (Refused errno.Eacces) old a new)
    → Step old now (Asked s x) a new
unfolding Step
asks_first old now s x a new free nobody h =
    subst (λ (o : Option Errno). Unless o old a new (Asking old now s x a new)) (sym (the_gate old s x free ∙ gate_of_nobody old s x nobody))
    (unless_else (is_first s x) errno.Eacces old a new (Asking old now s x a new) h)

-- READ by one who acts
pub reads_so : (old : World) (now : ℕ) (s : SessionId) (asker : Asker) (key : ℤ) (x : Ask) (a : Answer) → x ≡ ask.Read key
    → asker_of old s ≡ Some asker → Reads old now s asker key a old
    → MatchBool (is_hello x) (Tells (Refused errno.Einval) old a old) (Asking old now s x a old)
reads_so old now s asker key x a is acts h =
    subst (λ (y : Ask). MatchBool (is_hello y) (Tells (Refused errno.Einval) old a old) (Asking old now s y a old)) (sym is)
    (subst (λ (o : Option Asker). MatchOption o (Tells (Refused errno.Eacces) old a old) (λ one. Reads old now s one key a old)) (sym acts) h)
