-- What a call finds, or why it refuses: a result beside the refusals and the rings and keys that the machine defines.
use Rattle.std.specs.Prelude.{◌≡◌, ℕ, ℤ, Bool, true, false, List, [], ◌∷◌, is_some, is_none, Option, Some, None, unwrap_or, Result, Ok, Err, MatchResult}
use Rattle.std.specs.FinMap as map
use Rattle.rk_names.specs.declared.numbers.SessionId.{SessionId}
use Rattle.rk_names.specs.declared.numbers.SessionId.TheVariants.{Client, Handler}
use Rattle.rk_names.specs.declared.errors.Errno.{Errno}
use Rattle.rk_names.specs.declared.errors.Errno.TheVariants as errno
use Rattle.rk_message.specs.Ask.{Ask}
use Rattle.rk_message.specs.declared.ask.AskOf.TheVariants as ask
use Rattle.rk_rings.specs.Places.{default_ring}
use Rattle.rk_rings.specs.Ring.{is_linked}
use Rattle.rk_auth.specs.Sessions.{session_of, wait_of}
use Rattle.rk_machine.specs.declared.event.Answer.{Answer}
use Rattle.rk_machine.specs.declared.event.Answer.TheVariants.{Refused}
use Rattle.rk_machine.specs.World.{World}
use Rattle.rk_machine.specs.Allowed.{first_of, refused_if}
use Rattle.rk_machine.specs.declared.asker.Asker.{Asker}
use Rattle.rk_machine.specs.Asker.{asker_of, serial_named, ring_for, ring_refusal, ring_or_none_refusal, key_refusal, own_refusal}
use Rattle.rk_machine.specs.Links.{is_full_at}
use Rattle.rk_machine.specs.KeyAsks.{serial_in, use_refusal, unlink_refusal, add_refusal}

-- ---- results

-- the answer that a result is: an error is a refusal
abbrev pub answer_of : Result Answer Errno → Answer
answer_of (Ok answer) = answer
answer_of (Err error) = Refused error

-- the call passes if there is no refusal, and is refused else
abbrev pub Passes : {A : Type 0} → Option Errno → Result A Errno → Type 0
Passes refusal result = MatchResult result (λ _. refusal ≡ None) (λ error. refusal ≡ Some error)

-- if there is no refusal something is found, of which this holds
abbrev pub Finds : {A : Type 0} → Option Errno → (A → Type 0) → Result A Errno → Type 0
Finds refusal found result = MatchResult result (λ one. found one × (refusal ≡ None)) (λ error. refusal ≡ Some error)

-- ---- who asks

-- EINVAL for a session that is not there, EBUSY for one that waits
abbrev pub session_refusal : World → SessionId → Option Errno
session_refusal w s = first_of (refused_if (is_none (session_of w.sessions s)) errno.Einval ∷ refused_if (is_some (wait_of w.sessions s)) errno.Ebusy ∷ [])

-- who acts when the session asks, if anybody does
abbrev pub FindsAsker : World → SessionId → Result (Option Asker) Errno → Type 0
FindsAsker w s result = Finds (session_refusal w s) (λ asker. asker ≡ asker_of w s) result

-- the ask is HELLO
abbrev pub is_hello : Ask → Bool
is_hello (ask.Hello hello) = true
is_hello _ = false

-- the ask is a REQUEST, which alone can start a construction
abbrev pub is_request : Ask → Bool
is_request (ask.Request typ description callout destination) = true
is_request _ = false

-- the ask is a REQUEST, a READ or a DESCRIBE, as most are
abbrev pub is_frequent : Ask → Bool
is_frequent (ask.Request typ description callout destination) = true
is_frequent (ask.Read key) = true
is_frequent (ask.Describe key) = true
is_frequent _ = false

-- what may be asked where nobody acts yet: HELLO by a client, and ASSUME by a handler
abbrev pub is_first : SessionId → Ask → Bool
is_first (Client n) (ask.Hello hello) = true
is_first (Handler k) (ask.Assume key) = true
is_first _ _ = false

-- ---- rings and keys by their numbers

-- where a new key goes: the ring that was named, if one was, else the default one
abbrev pub new_key_ring : World → Asker → Option ℕ → ℕ
new_key_ring w asker named = unwrap_or named (default_ring w.rings asker.context asker.requestor asker.setting)

-- the ring of a number, which has to be there
abbrev pub FindsRing : World → Asker → ℤ → Result ℕ Errno → Type 0
FindsRing w asker r result = Finds (ring_refusal w asker r) (λ ring. ring_for w asker r ≡ Some ring) result

-- the ring of a number, where 0 stands for none
abbrev pub FindsRingOrNone : World → Asker → ℤ → Result (Option ℕ) Errno → Type 0
FindsRingOrNone w asker r result = Finds (ring_or_none_refusal w asker r) (λ ring. ring_for w asker r ≡ ring) result

-- the serial that a number names, or EINVAL
abbrev pub FindsSerial : ℤ → Result ℕ Errno → Type 0
FindsSerial number result =
    MatchResult result (λ k. serial_named number ≡ Some k) (λ e. (serial_named number ≡ None) × (e ≡ errno.Einval))

-- k has this number, and is there
abbrev pub IsKeyOf : World → ℤ → ℕ → Type 0
IsKeyOf w key k = (serial_named key ≡ Some k) × (map.contains_key w.keys k ≡ true)

-- the key of a number, which has to be there and to be possessed
abbrev pub FindsPossessed : World → Asker → ℤ → Result ℕ Errno → Type 0
FindsPossessed w asker key result = Finds (key_refusal w asker (serial_named key)) (IsKeyOf w key) result

-- ---- what an ask names

-- LINK: a key and a ring, if no refusal but that of a full ring applies
abbrev pub FindsLinkable : World → ℕ → Asker → ℤ → ℤ → Result (ℕ × ℕ) Errno → Type 0
FindsLinkable w now asker key r result =
    Finds (first_of (key_refusal w asker (serial_named key) ∷ ring_refusal w asker r ∷ use_refusal w (serial_in key) now ∷ []))
    (λ p. IsKeyOf w key p.0 × (ring_for w asker r ≡ Some p.1)) result

-- UNLINK: a key, and a ring in which it is linked
abbrev pub FindsLink : World → Asker → ℤ → ℤ → Result (ℕ × ℕ) Errno → Type 0
FindsLink w asker key r result =
    Finds (unlink_refusal w asker key r)
    (λ p. (serial_named key ≡ Some p.0) × (ring_for w asker r ≡ Some p.1) × (is_linked w.rings p.1 p.0 ≡ true)) result

-- ADD: a ring that has room for a key of that name
abbrev pub FindsRoom : World → Asker → List ℕ → List ℕ → ℤ → Bool → Result ℕ Errno → Type 0
FindsRoom w asker typ description r left result =
    Finds (add_refusal w asker typ description r left)
    (λ ring. (ring_for w asker r ≡ Some ring) × (is_full_at w ring typ description ≡ false)) result

-- INSTANTIATE, NEGATE and REJECT: a key whose authority is assumed, and the ring that is named, if one is
abbrev pub FindsOwn : World → Asker → ℤ → ℤ → Result (ℕ × Option ℕ) Errno → Type 0
FindsOwn w asker key r result =
    Finds (first_of (own_refusal asker (serial_named key) ∷ ring_or_none_refusal w asker r ∷ []))
    (λ p. (serial_named key ≡ Some p.0) × (asker.assumed ≡ Some p.0) × (ring_for w asker r ≡ p.1)) result
