-- The asks, each with its own refusals and its effect.
use Rattle.std.specs.Prelude.{ℕ, ℤ, Bool, true, false, pos, negsuc, not, ◌==◌, is_some, is_none, [], ◌∷◌, Option, Some, None, MatchOption, if◌then◌else◌}
use Rattle.rk_names.specs.declared.numbers.SessionId.{SessionId}
use Rattle.rk_names.specs.declared.numbers.SessionId.TheVariants.{Client, Handler}
use Rattle.rk_names.specs.declared.errors.Errno.{Errno}
use Rattle.rk_names.specs.declared.errors.Errno.TheVariants as errno
use Rattle.rk_names.specs.declared.errors.KeyError.TheVariants as error
use Rattle.rk_names.specs.Numbers.{moment_plus}
use Rattle.rk_message.specs.Ask.{Ask}
use Rattle.rk_message.specs.declared.ask.AskOf.TheVariants as ask
use Rattle.rk_keys.specs.declared.key.Condition.{Condition}
use Rattle.rk_keys.specs.declared.key.Condition.TheVariants.{Positive, Negative}
use Rattle.rk_auth.specs.Sessions.{session_of, wait_of, unspent}
use Rattle.rk_auth.specs.Changes.{session_changed, with_assumed}
use Rattle.rk_machine.specs.declared.event.Answer.{Answer}
use Rattle.rk_machine.specs.declared.event.Answer.TheVariants.{Refused}
use Rattle.rk_machine.specs.World.{World}
use Rattle.rk_machine.specs.Allowed.{done, first_of, refused_if, Leaves, Tells, Settles, Unless}
use Rattle.rk_machine.specs.Asker.{Asker, asker_of, serial_named, ring_for, ring_or_none_refusal, own_refusal}
use Rattle.rk_machine.specs.Links.{linked_in, full_refusal}
use Rattle.rk_machine.specs.Completion.{completed}
use Rattle.rk_machine.specs.Hello.{Hellos}
use Rattle.rk_machine.specs.Request.{Requests}
use Rattle.rk_machine.specs.KeyAsks.{serial_in, TellsCallout, Reads, Describes, Revokes, TimesOut, LinksIn, Unlinks, Clears, Defaults, Adds}

-- ---- ASSUME: keyctl_assume_authority(3)

-- a handler may assume the authority of its own key alone, while it is unspent; 0 is never refused
abbrev pub assume_refusal : World → SessionId → ℤ → Option Errno
assume_refusal w (Handler own) (pos n) =
    if n == 0 then None
    else first_of (refused_if (not (n == own)) errno.Enokey ∷ refused_if (is_none (unspent w.sessions own)) errno.Ekeyrevoked ∷ [])
assume_refusal w (Client n) (pos k) = if k == 0 then None else Some errno.Enokey
assume_refusal w s (negsuc n) = Some errno.Enokey

-- ASSUME: the session has assumed the authority of the key that was named, and none for 0
abbrev pub Assumes : World → SessionId → ℤ → Answer → World → Type 0
Assumes old s key answer new =
    Unless (assume_refusal old s key) old answer new
    (Leaves done (record old { sessions = session_changed s (with_assumed (serial_named key)) old.sessions }) answer new)

-- ---- INSTANTIATE, NEGATE, REJECT: keyctl_instantiate(3), keyctl_negate(3), keyctl_reject(3)

-- to complete a key: EPERM if it is not one's own, then the error of a ring that was named, then EDQUOT if that ring is full for it
abbrev pub completion_refusal : World → Asker → ℤ → ℤ → Option Errno
completion_refusal w asker key r =
    first_of (own_refusal asker (serial_named key) ∷ ring_or_none_refusal w asker r ∷ full_refusal w (ring_for w asker r) (serial_in key) ∷ [])

-- the key is linked if it is wanted, and complete
unfoldable pub Completes : World → ℕ → Asker → ℤ → ℤ → Condition → Option ℕ → Answer → World → Type 0
Completes old now asker key r condition end answer new =
    Unless (completion_refusal old asker key r) old answer new
    (Settles done (completed now (serial_in key) condition end (linked_in (ring_for old asker r) (serial_in key) old)) answer new)

-- ---- the gate

-- who may ask: one with a context, but for HELLO of a client and ASSUME of a handler
abbrev pub gate : World → SessionId → Ask → Option Errno
gate w (Client n) (ask.Hello hello) = refused_if (is_some (asker_of w (Client n))) errno.Einval
gate w (Handler k) (ask.Hello hello) = Some (if is_none (asker_of w (Handler k)) then errno.Eacces else errno.Einval)
gate w (Handler k) (ask.Assume key) = None
gate w s a = refused_if (is_none (asker_of w s)) errno.Eacces

-- a session that isn't there, one that waits, and the gate
abbrev pub ask_refusal : World → SessionId → Ask → Option Errno
ask_refusal w s a =
    first_of (refused_if (is_none (session_of w.sessions s)) errno.Einval ∷ refused_if (is_some (wait_of w.sessions s)) errno.Ebusy ∷ gate w s a ∷ [])

-- ---- each ask

-- any ask but HELLO, ASSUME and CALLOUT is one of someone who acts
abbrev pub is_acting : Ask → Bool
is_acting (ask.Hello hello) = false
is_acting (ask.Assume key) = false
is_acting ask.Callout = false
is_acting _ = true

-- who acts is given to P; if nobody does, EACCES
abbrev pub Acting : World → SessionId → Answer → World → (Asker → Type 0) → Type 0
Acting old s answer new P = MatchOption (asker_of old s) (Tells (Refused errno.Eacces) old answer new) P

-- what each ask may be answered, and which world it leaves, once it has passed the gate
abbrev pub Asking : World → ℕ → SessionId → Ask → Answer → World → Type 0
Asking old now s (ask.Hello hello) answer new = Hellos old s hello answer new
Asking old now s (ask.Request typ description callout destination) answer new =
    Acting old s answer new (λ asker. Requests old now s asker typ description callout destination answer new)
Asking old now s (ask.Assume key) answer new = Assumes old s key answer new
Asking old now s (ask.Instantiate key payload ring) answer new =
    Acting old s answer new (λ asker. Completes old now asker key ring (Positive payload) None answer new)
Asking old now s (ask.Negate key timeout ring) answer new =
    Acting old s answer new (λ asker. Completes old now asker key ring (Negative error.NoKey) (Some (moment_plus now timeout)) answer new)
Asking old now s (ask.Reject key timeout e ring) answer new =
    Acting old s answer new (λ asker. Completes old now asker key ring (Negative e) (Some (moment_plus now timeout)) answer new)
Asking old now s (ask.Read key) answer new = Acting old s answer new (λ asker. Reads old now s asker key answer new)
Asking old now s (ask.Describe key) answer new = Acting old s answer new (λ asker. Describes old now asker key answer new)
Asking old now s (ask.Revoke key) answer new = Acting old s answer new (λ asker. Revokes old asker key answer new)
Asking old now s (ask.Timeout key seconds) answer new = Acting old s answer new (λ asker. TimesOut old now asker key seconds answer new)
Asking old now s (ask.Link key ring) answer new = Acting old s answer new (λ asker. LinksIn old now asker key ring answer new)
Asking old now s (ask.Unlink key ring) answer new = Acting old s answer new (λ asker. Unlinks old asker key ring answer new)
Asking old now s (ask.Clear ring) answer new = Acting old s answer new (λ asker. Clears old asker ring answer new)
Asking old now s (ask.Default setting) answer new = Acting old s answer new (λ asker. Defaults old s asker setting answer new)
Asking old now s (ask.Add typ description payload ring) answer new =
    Acting old s answer new (λ asker. Adds old asker typ description payload ring answer new)
Asking old now s ask.Callout answer new = TellsCallout old s answer new
