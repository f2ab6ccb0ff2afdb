-- What is started, as bytes: its numbers, and the request that asks for its names.
use Rattle.rk_volumes.proofs.Words.{◌++◌, ap, ◌≡◌, ℕ, List, length, ◌∙◌, arith, sym, refl, ◌≢◌, ◌+◌, append_assoc, ◌<◌, Some, None, ◌≤◌, length-append}
use Rattle.rk_volumes.proofs.Words.{to_be_bytes, w32, pos, serial_of, asks_are_told, Ask, IsAsk, ask_message, spelling, Subject, request_of, subject_bytes}
use Rattle.rk_volumes.proofs.Words.{IsWord, IsSubject, Result, Ok, Err}
use Rattle.std.specs.Result.{IsErrAnd}
use Rattle.rk_message.specs.declared.ask.AskOf.TheVariants as ask
use Rattle.rk_message.specs.declared.fault.ReadError.{ReadError}
use Rattle.rk_message.specs.declared.fault.ReadError.TheVariants as error
use Rattle.rk_volumes.specs.declared.fault.Unread.{Unread}
use Rattle.rk_volumes.specs.declared.fault.Unread.TheVariants as unread
use Rattle.rk_volumes.specs.Reading.{unread_by}
use Rattle.rk_volumes.proofs.Fronts.{same_word}
use Rattle.rk_volumes.proofs.NumbersOfKinds.{no_serial}
use Rattle.rk_volumes.proofs.Rows.{serial_fits, from_uid, from_gid, from_thread, from_process, from_session, names_bytes}

-- six numbers of four bytes, and what follows them
abbrev pub numbers : ℕ → ℕ → ℕ → ℕ → ℕ → ℕ → List ℕ → List ℕ
numbers key uid gid thread process session rest =
    to_be_bytes w32 key ++ (to_be_bytes w32 uid ++ (to_be_bytes w32 gid ++ (to_be_bytes w32 thread ++ (to_be_bytes w32 process
    ++ (to_be_bytes w32 session ++ rest)))))

four : (n : ℕ) → length (to_be_bytes w32 n) ≡ 4
four n = refl

subject_len : (s : Subject) → length (subject_bytes s) ≡ 24 + length (names_bytes s)
subject_len s =
    omega (
      arith,
      length-append (to_be_bytes w32 s.key) (from_uid s),
      length-append (to_be_bytes w32 s.uid) (from_gid s),
      length-append (to_be_bytes w32 s.gid) (from_thread s),
      length-append (to_be_bytes w32 s.thread) (from_process s),
      length-append (to_be_bytes w32 s.process) (from_session s),
      length-append (to_be_bytes w32 s.session) (names_bytes s),
      four s.key,
      four s.uid,
      four s.gid,
      four s.thread,
      four s.process,
      four s.session,
    )

-- fewer bytes than the numbers
pub no_numbers : (bytes : List ℕ) → length bytes < 24 → (s : Subject) → IsSubject s → bytes ≢ subject_bytes s
no_numbers bytes short s is e = omega (arith, short, ap length e, subject_len s)

-- the numbers are words
pub record AreWords (k u g t p s : ℕ) : Type 0 where
  pub key : IsWord k
  pub uid : IsWord u
  pub gid : IsWord g
  pub thread : IsWord t
  pub process : IsWord p
  pub session : IsWord s

-- six numbers that fit four bytes each
pub words_of : (k u g t p s : ℕ) → IsWord k × IsWord u × IsWord g × IsWord t × IsWord p × IsWord s → AreWords k u g t p s
words_of k u g t p s is = record { key = is.0; uid = is.1; gid = is.2; thread = is.3; process = is.4; session = is.5 }

-- a part is not bad where memory ran out
pub not_bad : {A : Type 0} (e : ReadError) (r : Result A Unread) → IsErrAnd r (λ u. u ≡ unread_by e) → r ≡ Err unread.Bad → e ≢ error.NoMemory
not_bad (error.Fault f) r is bad none = absurd cc
not_bad error.NoMemory (Ok part) is bad none = absurd cc
not_bad error.NoMemory (Err u) is bad none = absurd cc

module _ (bytes rest : List ℕ) (key uid gid thread process session : ℕ) (fits : AreWords key uid gid thread process session)
    (is : bytes ≡ numbers key uid gid thread process session rest) where
  -- of a subject that starts with these numbers, its key and its names
  pub parts_of : (s : Subject) → IsSubject s → bytes ≡ subject_bytes s → (key ≡ s.key) × (rest ≡ names_bytes s)
  parts_of s subject e =
      let one = same_word key s.key _ (from_uid s) fits.key (serial_fits s.key subject.key) (sym is ∙ e) in
      let two = same_word uid s.uid _ (from_gid s) fits.uid subject.uid one.1 in
      let three = same_word gid s.gid _ (from_thread s) fits.gid subject.gid two.1 in
      let four = same_word thread s.thread _ (from_process s) fits.thread subject.thread three.1 in
      let five = same_word process s.process _ (from_session s) fits.process subject.process four.1 in
      let six = same_word session s.session rest (names_bytes s) fits.session subject.session five.1 in
      (one.0, six.1)

  pub no_subject_key : None ≡ serial_of key → (s : Subject) → IsSubject s → bytes ≢ subject_bytes s
  no_subject_key none s subject e =
      let parts = parts_of s subject e in no_serial key none (omega (arith, subject.key.0, parts.0), omega (arith, subject.key.1, parts.0))

  -- six numbers and then bytes that spell no request are no subject
  pub no_subject_ask : ((a : Ask) → IsAsk a → rest ≢ spelling (ask_message a)) → (s : Subject) → IsSubject s → bytes ≢ subject_bytes s
  no_subject_ask none s subject e = none (request_of s) subject.names (parts_of s subject e).1

  -- nor are six numbers and a request other than one with a callout and destination 0
  pub no_subject_names : (a : Ask) → IsAsk a → rest ≡ spelling (ask_message a)
      → ((typ description callout : List ℕ) → a ≢ ask.Request typ description (Some callout) (pos 0)) → (s : Subject) → IsSubject s → bytes ≢ subject_bytes s
  no_subject_names a asked spelt none s subject e =
      none s.typ s.desc s.callout (asks_are_told a (request_of s) asked subject.names (sym spelt ∙ (parts_of s subject e).1))

-- a subject that was read
pub subject_is : (bytes rest : List ℕ) (key : ℕ) (a : Ask) (s : Subject) → bytes ≡ numbers key s.uid s.gid s.thread s.process s.session rest → key ≡ s.key
    → rest ≡ spelling (ask_message a) → a ≡ request_of s → bytes ≡ subject_bytes s
subject_is bytes rest key a s is same spelt asked =
    is ∙ ap (λ (k : ℕ). numbers k s.uid s.gid s.thread s.process s.session rest) same
    ∙ ap (numbers s.key s.uid s.gid s.thread s.process s.session) (spelt ∙ ap (λ (x : Ask). spelling (ask_message x)) asked)

-- seven writes, one after the other
pub subject_put : (a b c d e f g : List ℕ) (s : Subject) → a ≡ to_be_bytes w32 s.key → b ≡ a ++ to_be_bytes w32 s.uid → c ≡ b ++ to_be_bytes w32 s.gid
    → d ≡ c ++ to_be_bytes w32 s.thread → e ≡ d ++ to_be_bytes w32 s.process → f ≡ e ++ to_be_bytes w32 s.session → g ≡ f ++ names_bytes s → g ≡ subject_bytes s
subject_put a b c d e f g s first second third fourth fifth sixth seventh =
    let k = to_be_bytes w32 s.key in
    let u = to_be_bytes w32 s.uid in
    let v = to_be_bytes w32 s.gid in
    let t = to_be_bytes w32 s.thread in
    let p = to_be_bytes w32 s.process in
    let q = to_be_bytes w32 s.session in
    let n = names_bytes s in
    seventh ∙ ap (λ (x : List ℕ). x ++ n) (sixth ∙ ap (λ (x : List ℕ). x ++ q) (fifth ∙ ap (λ (x : List ℕ). x ++ p) (fourth ∙ ap (λ (x : List ℕ). x ++ t)
    (third ∙ ap (λ (x : List ℕ). x ++ v) (second ∙ ap (λ (x : List ℕ). x ++ u) first))))) ∙ append_assoc (((((k ++ u) ++ v) ++ t) ++ p)) q n
    ∙ append_assoc ((((k ++ u) ++ v) ++ t)) p (q ++ n) ∙ append_assoc (((k ++ u) ++ v)) t (p ++ (q ++ n))
    ∙ append_assoc ((k ++ u)) v (t ++ (p ++ (q ++ n))) ∙ append_assoc k u (v ++ (t ++ (p ++ (q ++ n))))

-- a subject and its length
pub subject_fits : (s : Subject) (n : ℕ) → n ≡ length (names_bytes s) → n ≤ 65536 → length (subject_bytes s) ≤ 65560
subject_fits s n is small = omega (arith, is, small, subject_len s)
