-- An ask can be told from its message.
use Rattle.rk_message.proofs.Words.{◌≡◌, ap, refl, ℕ, sym, List, ◌∙◌, arith, true, false, Bool, ◌∷◌, Option, Some, None, Ok, Err, subst, [], Result, suc, zero}
use Rattle.rk_message.proofs.Words.{ℤ, ◌==◌, unwrap_or, IfOk, if◌then◌else◌, ◌||◌, pos, key_error_named, KeyError, Ask, ask_message, IsAsk, JoinsASerial}
use Rattle.rk_message.proofs.Words.{◌<◌, kinds_of, Short, UnknownOp, take_rest, take, drop, length, get_or, ◌-◌, ◌≤◌, w8, Fits, Reads, ReadsAsk, IsFaultOf, message_at, message_behind, asks, Message, Value, spelling, U8, U32, I32, Blob, Maybe, Fault}
use Rattle.rk_names.specs.declared.errors.KeyError.TheVariants as error
use Rattle.rk_message.specs.declared.ask.AskOf.TheVariants as ask
use Rattle.rk_message.specs.declared.greeting.Greeting.{Greeting}
use Rattle.rk_message.proofs.Numbers.{IsBytes}
use Rattle.rk_message.proofs.Messages.{message_takes, message_again}
use Rattle.rk_message.proofs.Faults.{fault_of_body}

-- the field at a place, whatever stands there if there is none
abbrev pub at : List Value → ℕ → Value
at [] i = U8 0
at (v ∷ vs) zero = v
at (v ∷ vs) (suc i) = at vs i

-- the number of a field, 0 for one that has none
abbrev pub number : Value → ℕ
number (U8 n) = n
number (U32 n) = n
number _ = 0

abbrev signed : Value → ℤ
signed (I32 z) = z
signed _ = pos 0

-- the bytes of a field, none for one that has none
abbrev pub bytes : Value → List ℕ
bytes (Blob b) = b
bytes _ = []

abbrev optional : Value → Option (List ℕ)
optional (Maybe b) = b
optional _ = None

abbrev pub serial : ℕ → Option ℕ
serial zero = None
serial (suc n) = Some (suc n)

abbrev named : ℕ → KeyError
named n = unwrap_or (key_error_named n) error.NoKey

abbrev greeting : ℕ → ℕ → Bool → Bool → Option ℕ → Greeting
greeting uid gid thread process join = record { uid = uid; gid = gid; thread = thread; process = process; join = join }

-- the ask of a message
abbrev ask_of : Message → Ask
ask_of m =
    let a = at m.values 0 in
    let b = at m.values 1 in
    let c = at m.values 2 in
    let d = at m.values 3 in
    if m.op == 1 then ask.Hello (greeting (number a) (number b) (number c == 1 || number c == 3) (number c == 2 || number c == 3) (serial (number d)))
    else (if m.op == 2 then ask.Request (bytes a) (bytes b) (optional c) (signed d)
    else (if m.op == 3 then ask.Assume (signed a)
    else (if m.op == 4 then ask.Instantiate (signed a) (bytes b) (signed c)
    else (if m.op == 5 then ask.Negate (signed a) (number b) (signed c)
    else (if m.op == 6 then ask.Reject (signed a) (number b) (named (number c)) (signed d)
    else (if m.op == 7 then ask.Read (signed a)
    else (if m.op == 8 then ask.Describe (signed a)
    else (if m.op == 9 then ask.Revoke (signed a)
    else (if m.op == 10 then ask.Timeout (signed a) (number b)
    else (if m.op == 11 then ask.Link (signed a) (signed b)
    else (if m.op == 12 then ask.Unlink (signed a) (signed b)
    else (if m.op == 13 then ask.Clear (signed a)
    else (if m.op == 14 then ask.Default (signed a)
    else (if m.op == 15 then ask.Add (bytes a) (bytes b) (bytes c) (signed d)
    else ask.Callout))))))))))))))

hello_of-message : (uid gid : ℕ) (thread process : Bool) (join : Option ℕ) → JoinsASerial (ask.Hello (greeting uid gid thread process join))
    → ask_of (ask_message (ask.Hello (greeting uid gid thread process join))) ≡ ask.Hello (greeting uid gid thread process join)
hello_of-message uid gid true true None joins = refl
hello_of-message uid gid true false None joins = refl
hello_of-message uid gid false true None joins = refl
hello_of-message uid gid false false None joins = refl
hello_of-message uid gid thread process (Some zero) joins = absurd (omega arith)
hello_of-message uid gid true true (Some (suc n)) joins = refl
hello_of-message uid gid true false (Some (suc n)) joins = refl
hello_of-message uid gid false true (Some (suc n)) joins = refl
hello_of-message uid gid false false (Some (suc n)) joins = refl

ask_of-message : (a : Ask) → JoinsASerial a → ask_of (ask_message a) ≡ a
ask_of-message (ask.Hello hello) joins = hello_of-message hello.uid hello.gid hello.thread hello.process hello.join joins
ask_of-message (ask.Reject key timeout error.Revoked ring) joins = refl
ask_of-message _ joins = refl

-- asks of the same message are the same ask
pub same_ask : (a b : Ask) → JoinsASerial a → JoinsASerial b → ask_message a ≡ ask_message b → a ≡ b
same_ask a b here there e = sym (ask_of-message a here) ∙ ap ask_of e ∙ ask_of-message b there

-- what was read is an ask, spelled by the body
pub ask_is_found : (body : List ℕ) (r : Result Ask Fault) → IsBytes body → ReadsAsk r (message_at asks body) → IfOk r (λ a. IsAsk a × (body ≡ spelling (ask_message a)))
ask_is_found body (Ok a) fits given = let t = message_takes asks body (ask_message a) fits given.0 in ((t.1, given.1), t.0)
ask_is_found body (Err f) fits given = tt

-- an ask that the body spells is what was read
pub ask_is_only : (body : List ℕ) (r : Result Ask Fault) (a : Ask) → IsAsk a → body ≡ spelling (ask_message a) → ReadsAsk r (message_at asks body) → r ≡ Ok a
ask_is_only body (Ok b) a is e given =
    let reads = ap (message_at asks) e ∙ message_again asks (ask_message a) is.0 in
    let same : ask_message b ≡ ask_message a = cc in
    ap Ok (same_ask b a given.1 is.1 same)
ask_is_only body (Err f) a is e given = let reads = ap (message_at asks) e ∙ message_again asks (ask_message a) is.0 in absurd cc

-- the refusal is for the leftmost fault
pub ask_is_leftmost : (body : List ℕ) (r : Result Ask Fault) → IsBytes body → ReadsAsk r (message_at asks body) → (f : Fault) → r ≡ Err f → IsFaultOf asks body f
ask_is_leftmost body (Ok a) fits given f e = absurd cc
ask_is_leftmost body (Err g) fits given f e =
    let same : g ≡ f = cc in subst (λ x. IsFaultOf asks body x) same (fault_of_body asks body g fits given.0)

-- what was read of the bytes behind the first is what was read of the body, and the same follows of it

abbrev Behind : Result Ask Fault → ℕ → List ℕ → Type 0
Behind r n body = ReadsAsk r (message_behind asks n (take (length body - 1) (drop 1 body)))

of_body : (body : List ℕ) (n : ℕ) (r : Result Ask Fault) → 1 ≤ length body → get_or body 0 0 ≡ n → Behind r n body → ReadsAsk r (message_at asks body)
unfolding message_at
of_body [] n r long first given = absurd (omega (arith, long))
of_body (op ∷ rest) n r long first given =
    subst (λ b. ReadsAsk r (message_behind asks op b)) (take_rest (op ∷ rest) 1) (subst (λ o. Behind r o (op ∷ rest)) (sym first) given)

pub behind_is_found : (body : List ℕ) (n : ℕ) (r : Result Ask Fault) → ((i : ℕ) → Fits w8 (get_or body i 0)) → 1 ≤ length body → get_or body 0 0 ≡ n
    → ReadsAsk r (message_behind asks n (take (length body - 1) (drop 1 body))) → IfOk r (λ a. IsAsk a × (body ≡ spelling (ask_message a)))
behind_is_found body n r fits long first given = ask_is_found body r (λ i. omega (arith, fits i)) (of_body body n r long first given)

pub behind_is_only : (body : List ℕ) (n : ℕ) (r : Result Ask Fault) → 1 ≤ length body → get_or body 0 0 ≡ n
    → ReadsAsk r (message_behind asks n (take (length body - 1) (drop 1 body))) → (a : Ask) → IsAsk a → body ≡ spelling (ask_message a) → r ≡ Ok a
behind_is_only body n r long first given a is e = ask_is_only body r a is e (of_body body n r long first given)

pub behind_is_leftmost : (body : List ℕ) (n : ℕ) (r : Result Ask Fault) → ((i : ℕ) → Fits w8 (get_or body i 0)) → 1 ≤ length body → get_or body 0 0 ≡ n
    → ReadsAsk r (message_behind asks n (take (length body - 1) (drop 1 body))) → (f : Fault) → r ≡ Err f → IsFaultOf asks body f
behind_is_leftmost body n r fits long first given = ask_is_leftmost body r (λ i. omega (arith, fits i)) (of_body body n r long first given)

pub behind_is_exact : (body : List ℕ) (n : ℕ) (r : Result Ask Fault) → 1 ≤ length body → get_or body 0 0 ≡ n
    → ReadsAsk r (message_behind asks n (take (length body - 1) (drop 1 body))) → Reads ask_message r (message_at asks body)
behind_is_exact body n r long first given = (of_body body n r long first given).0

-- there is no first byte
pub empty_is_short : (body : List ℕ) → length body < 1 → message_at asks body ≡ Err Short
unfolding message_at
empty_is_short [] below = refl
empty_is_short (op ∷ rest) below = absurd (omega (arith, below))

-- no ask has this first byte
pub behind_is_unknown : (op : ℕ) (rest : List ℕ) → kinds_of asks op ≡ None → message_behind asks op rest ≡ Err UnknownOp
unfolding message_behind
behind_is_unknown op rest none = rw none refl

-- asks with the same spelling are the same ask
pub asks_are_told : (a b : Ask) → IsAsk a → IsAsk b → spelling (ask_message a) ≡ spelling (ask_message b) → a ≡ b
asks_are_told a b here there e =
    let one = message_again asks (ask_message a) here.0 in
    let other = message_again asks (ask_message b) there.0 in
    let same : ask_message a ≡ ask_message b = let joined = ap (message_at asks) e in cc in
    same_ask a b here.1 there.1 same
