-- The wait of each session, after each thing that a step may do.
use Rattle.rk_machine.proofs.Words.{◌≡◌, ℕ, ◌∙◌, Bool, true, false, cond, refl, ap, sym, Option, Some, None, nat_eq, option_map, option_and_then, is_none}
use Rattle.rk_machine.proofs.Words.{eqb-true, eq-eqb, SessionId, Client, Handler, session_changed, in_handler, in_new_stage, spent, without_authority}
use Rattle.rk_machine.proofs.Words.{without_construction, with_construction, all_told, told, with_client, without_client, with_wait, with_assumed, in_stage}
use Rattle.rk_machine.proofs.Words.{new_wait, told_wait, Sessions, new_session, wait_of, session_of, handler_in, Authority, Construction, Stage, Starting}
use Rattle.rk_machine.proofs.Words.{Plain, Piped, Negating, Outcome, Session, Wait, same_session, get_inserted, get_removed, get_changed_at, get_changed_all}
use Rattle.rk_machine.proofs.Words.{of_choice}
use Rattle.std.specs.FinMap as map
use Rattle.rk_auth.specs.Changes.{launched}

-- sessions that pass the test are the same
pub same-true : (s t : SessionId) → same_session s t ≡ true → s ≡ t
same-true (Client n) (Client m) h = ap Client (eqb-true n m h)
same-true (Handler n) (Handler m) h = ap Handler (eqb-true n m h)
same-true (Client n) (Handler m) h = absurd (cc)
same-true (Handler n) (Client m) h = absurd (cc)

-- a session is the same as itself
pub same-self : (s : SessionId) → same_session s s ≡ true
same-self (Client n) = eq-eqb n n refl
same-self (Handler n) = eq-eqb n n refl

-- the key of a wait, and whether it is its starter's
abbrev pub flag : Wait → ℕ × Bool
flag w = (w.key, w.starter)

abbrev wait_in : Option Session → Option Wait
wait_in o = option_and_then (λ one. one.wait) o

-- the key for which a session waits, and whether as its starter
abbrev pub flag_in : Option Session → Option (ℕ × Bool)
flag_in o = option_map flag (wait_in o)

-- the same, of a session of the world
abbrev pub flag_of : Sessions → SessionId → Option (ℕ × Bool)
flag_of a s = flag_in (session_of a s)

abbrev in_construction : Option Construction → Option Session
in_construction o = option_and_then (λ c. handler_in c.stage) o

-- ---- one session is changed

staged : (f : Session → Session) (st : Stage) → handler_in (in_stage f st) ≡ option_map f (handler_in st)
staged f Starting = refl
staged f (Plain s) = refl
staged f Piped = refl
staged f Negating = refl

handled : (f : Session → Session) (b : Bool) (o : Option Construction)
    → in_construction (cond b (option_map (in_handler f) o) o) ≡ cond b (option_map f (in_construction o)) (in_construction o)
handled f true None = refl
handled f true (Some c) = staged f c.stage
handled f false o = refl

-- a change of one session changes that one alone
pub session_of_changed : (id : SessionId) (f : Session → Session) (a : Sessions) (s : SessionId)
    → session_of (session_changed id f a) s ≡ cond (same_session id s) (option_map f (session_of a s)) (session_of a s)
session_of_changed (Client n) f a (Client m) = get_changed_at n f a.clients m
session_of_changed (Client n) f a (Handler j) = refl
session_of_changed (Handler k) f a (Client m) = refl
session_of_changed (Handler k) f a (Handler j) =
    ap in_construction (get_changed_at k (in_handler f) a.constructions j) ∙ handled f (nat_eq k j) (map.get a.constructions j)

-- a change that leaves the wait
abbrev pub KeepsWait : (Session → Session) → Type 0
KeepsWait f = (s : Session) → (f s).wait ≡ s.wait

kept : (f : Session → Session) → KeepsWait f → (b : Bool) (o : Option Session) → wait_in (cond b (option_map f o) o) ≡ wait_in o
kept f h true None = refl
kept f h true (Some s) = h s
kept f h false o = refl

-- a change that leaves a session's wait leaves every wait
pub wait_kept : (id : SessionId) (f : Session → Session) → KeepsWait f → (a : Sessions) (s : SessionId) → wait_of (session_changed id f a) s ≡ wait_of a s
wait_kept id f h a s = ap wait_in (session_of_changed id f a s) ∙ kept f h (same_session id s) (session_of a s)

waitless : (b : Bool) (o : Option Session) → wait_in (cond b (option_map (with_wait None) o) o) ≡ cond b None (wait_in o)
waitless true None = refl
waitless true (Some s) = refl
waitless false o = refl

-- a session that collects waits no more, and every other wait stays
pub wait_collected : (id : SessionId) (a : Sessions) (s : SessionId)
    → wait_of (session_changed id (with_wait None) a) s ≡ cond (same_session id s) None (wait_of a s)
wait_collected id a s = ap wait_in (session_of_changed id (with_wait None) a s) ∙ waitless (same_session id s) (session_of a s)

begun_in : (w : Wait) (o : Option Session) → is_none o ≡ false → wait_in (option_map (with_wait (Some w)) o) ≡ Some w
begun_in w None h = absurd (cc)
begun_in w (Some s) h = refl

-- a session that begins a wait has it, and every other wait stays
pub wait_begun : (id : SessionId) (w : Wait) (a : Sessions) (s : SessionId) → is_none (session_of a id) ≡ false
    → wait_of (session_changed id (with_wait (Some w)) a) s ≡ cond (same_session id s) (Some w) (wait_of a s)
wait_begun id w a s there =
    ap wait_in (session_of_changed id (with_wait (Some w)) a s)
    ∙ elim (same_session id s) as (λ t. same_session id s ≡ t → wait_in (cond t (option_map (with_wait (Some w)) (session_of a s)) (session_of a s))
    ≡ cond t (Some w) (wait_of a s)) [
      | true ↦ λ same. begun_in w (session_of a s) (ap (λ x. is_none (session_of a x)) (sym (same-true id s same)) ∙ there)
      | false ↦ λ _. refl
    ] refl

-- ---- completion

told_in : (k : ℕ) (o : Outcome) (x : Option Session) → wait_in (option_map (told k o) x) ≡ option_map (told_wait k o) (wait_in x)
told_in k o None = refl
told_in k o (Some s) = refl

told_handler : (k : ℕ) (o : Outcome) (x : Option Construction)
    → wait_in (in_construction (option_map (in_handler (told k o)) x)) ≡ option_map (told_wait k o) (wait_in (in_construction x))
told_handler k o None = refl
told_handler k o (Some c) = ap wait_in (staged (told k o) c.stage) ∙ told_in k o (handler_in c.stage)

-- an outcome of k is given to every wait on k
pub wait_told : (k : ℕ) (o : Outcome) (a : Sessions) (s : SessionId) → wait_of (all_told k o a) s ≡ option_map (told_wait k o) (wait_of a s)
wait_told k o a (Client n) = ap wait_in (get_changed_all (told k o) a.clients n) ∙ told_in k o (map.get a.clients n)
wait_told k o a (Handler j) =
    ap (λ x. wait_in (in_construction x)) (get_changed_all (in_handler (told k o)) a.constructions j) ∙ told_handler k o (map.get a.constructions j)

unassumed : (o : Option Session) → wait_in (option_map (with_assumed None) o) ≡ wait_in o
unassumed None = refl
unassumed (Some s) = refl

spent_in : (b : Bool) (o : Option Construction) → wait_in (in_construction (cond b (option_map without_authority o) o)) ≡ wait_in (in_construction o)
spent_in true None = refl
spent_in true (Some c) = ap wait_in (staged (with_assumed None) c.stage) ∙ unassumed (handler_in c.stage)
spent_in false o = refl

-- spending an authority leaves every wait
pub wait_spent : (k : ℕ) (a : Sessions) (s : SessionId) → wait_of (spent k a) s ≡ wait_of a s
wait_spent k a (Client n) = refl
wait_spent k a (Handler j) =
    ap (λ x. wait_in (in_construction x)) (get_changed_at k without_authority a.constructions j) ∙ spent_in (nat_eq k j) (map.get a.constructions j)

-- ---- constructions

launched_in : (st : Stage) → wait_in (handler_in st) ≡ None → (b : Bool) (o : Option Construction)
    → wait_in (in_construction (cond b (option_map (in_new_stage st) o) o)) ≡ cond b None (wait_in (in_construction o))
launched_in st h true None = refl
launched_in st h true (Some c) = h
launched_in st h false o = refl

-- if the handler of k is launched it waits for nothing, and every other wait stays
pub wait_launched : (k : ℕ) (st : Stage) → wait_in (handler_in st) ≡ None → (a : Sessions) (s : SessionId)
    → wait_of (launched k st a) s ≡ cond (same_session (Handler k) s) None (wait_of a s)
wait_launched k st h a (Client n) = refl
wait_launched k st h a (Handler j) =
    ap (λ x. wait_in (in_construction x)) (get_changed_at k (in_new_stage st) a.constructions j) ∙ launched_in st h (nat_eq k j) (map.get a.constructions j)

-- a construction that is removed takes its handler's wait with it, and every other wait stays
pub wait_removed : (k : ℕ) (a : Sessions) (s : SessionId) → wait_of (without_construction k a) s ≡ cond (same_session (Handler k) s) None (wait_of a s)
wait_removed k a (Client n) = refl
wait_removed k a (Handler j) =
    ap (λ x. wait_in (in_construction x)) (get_removed a.constructions k j)
    ∙ of_choice (λ x. wait_in (in_construction x)) (nat_eq k j) None (map.get a.constructions j)

issued_in : (b : Bool) (authority : Authority) (o : Option Construction) → (b ≡ true → o ≡ None)
    → wait_in (in_construction (cond b (Some (record { stage = Starting; authority = Some authority })) o)) ≡ wait_in (in_construction o)
issued_in true authority o new = sym (ap (λ x. wait_in (in_construction x)) (new refl))
issued_in false authority o new = refl

-- a construction that begins leaves every wait
pub wait_issued : (k : ℕ) (authority : Authority) (a : Sessions) (s : SessionId) → map.get a.constructions k ≡ None
    → wait_of (with_construction k authority a) s ≡ wait_of a s
wait_issued k authority a (Client n) new = refl
wait_issued k authority a (Handler j) new =
    ap (λ x. wait_in (in_construction x)) (get_inserted a.constructions k _ j)
    ∙ issued_in (nat_eq k j) authority (map.get a.constructions j) (λ same. ap (map.get a.constructions) (sym (eqb-true k j same)) ∙ new)

-- ---- clients

came_in : (b : Bool) (o : Option Session) → (b ≡ true → o ≡ None) → wait_in (cond b (Some new_session) o) ≡ wait_in o
came_in true o new = sym (ap wait_in (new refl))
came_in false o new = refl

-- a client that comes leaves every wait
pub wait_came : (n : ℕ) (a : Sessions) (s : SessionId) → map.get a.clients n ≡ None → wait_of (with_client n a) s ≡ wait_of a s
wait_came n a (Handler j) new = refl
wait_came n a (Client m) new =
    ap wait_in (get_inserted a.clients n new_session m) ∙ came_in (nat_eq n m) (map.get a.clients m)
    (λ same. ap (map.get a.clients) (sym (eqb-true n m same)) ∙ new)

-- a client that goes takes its wait with it, and every other wait stays
pub wait_went : (n : ℕ) (a : Sessions) (s : SessionId) → wait_of (without_client n a) s ≡ cond (same_session (Client n) s) None (wait_of a s)
wait_went n a (Handler j) = refl
wait_went n a (Client m) = ap wait_in (get_removed a.clients n m) ∙ of_choice wait_in (nat_eq n m) None (map.get a.clients m)

-- ---- the same of the keys alone

told_flag : (k : ℕ) (o : Outcome) (w : Option Wait) → option_map flag (option_map (told_wait k o) w) ≡ option_map flag w
told_flag k o None = refl
told_flag k o (Some w) = refl

-- a change that leaves a session's wait leaves for which key each session waits, and whether as starter
pub flag_kept : (id : SessionId) (f : Session → Session) → KeepsWait f → (a : Sessions) (s : SessionId) → flag_of (session_changed id f a) s ≡ flag_of a s
flag_kept id f h a s = ap (option_map flag) (wait_kept id f h a s)

-- a session that collects waits for no key, and every other as before
pub flag_collected : (id : SessionId) (a : Sessions) (s : SessionId)
    → flag_of (session_changed id (with_wait None) a) s ≡ cond (same_session id s) None (flag_of a s)
flag_collected id a s = ap (option_map flag) (wait_collected id a s) ∙ of_choice (option_map flag) (same_session id s) None (wait_of a s)

-- a session that begins a wait waits for that key, and every other as before
pub flag_begun : (id : SessionId) (k : ℕ) (b : Bool) (a : Sessions) (s : SessionId) → is_none (session_of a id) ≡ false
    → flag_of (session_changed id (with_wait (Some (new_wait k b))) a) s ≡ cond (same_session id s) (Some (k, b)) (flag_of a s)
flag_begun id k b a s there =
    ap (option_map flag) (wait_begun id (new_wait k b) a s there)
    ∙ of_choice (option_map flag) (same_session id s) (Some (new_wait k b)) (wait_of a s)

-- an outcome leaves for which key each session waits
pub flag_told : (k : ℕ) (o : Outcome) (a : Sessions) (s : SessionId) → flag_of (all_told k o a) s ≡ flag_of a s
flag_told k o a s = ap (option_map flag) (wait_told k o a s) ∙ told_flag k o (wait_of a s)

-- spending an authority leaves for which key each session waits
pub flag_spent : (k : ℕ) (a : Sessions) (s : SessionId) → flag_of (spent k a) s ≡ flag_of a s
flag_spent k a s = ap (option_map flag) (wait_spent k a s)

no_wait_in : (st : Stage) → flag_in (handler_in st) ≡ None → wait_in (handler_in st) ≡ None
no_wait_in st h = none_flag (wait_in (handler_in st)) h
  where
    none_flag : (o : Option Wait) → option_map flag o ≡ None → o ≡ None
    none_flag None h = refl
    none_flag (Some w) h = absurd (cc)

-- after a launch the handler of k waits for no key, and every other session as before
pub flag_launched : (k : ℕ) (st : Stage) → flag_in (handler_in st) ≡ None → (a : Sessions) (s : SessionId)
    → flag_of (launched k st a) s ≡ cond (same_session (Handler k) s) None (flag_of a s)
flag_launched k st h a s =
    ap (option_map flag) (wait_launched k st (no_wait_in st h) a s)
    ∙ of_choice (option_map flag) (same_session (Handler k) s) None (wait_of a s)

-- if a construction is removed its handler waits for no key, and every other session as before
pub flag_removed : (k : ℕ) (a : Sessions) (s : SessionId) → flag_of (without_construction k a) s ≡ cond (same_session (Handler k) s) None (flag_of a s)
flag_removed k a s = ap (option_map flag) (wait_removed k a s) ∙ of_choice (option_map flag) (same_session (Handler k) s) None (wait_of a s)

-- a construction that begins leaves for which key each session waits
pub flag_issued : (k : ℕ) (authority : Authority) (a : Sessions) (s : SessionId) → map.get a.constructions k ≡ None
    → flag_of (with_construction k authority a) s ≡ flag_of a s
flag_issued k authority a s new = ap (option_map flag) (wait_issued k authority a s new)

-- a client that comes leaves for which key each session waits
pub flag_came : (n : ℕ) (a : Sessions) (s : SessionId) → map.get a.clients n ≡ None → flag_of (with_client n a) s ≡ flag_of a s
flag_came n a s new = ap (option_map flag) (wait_came n a s new)

-- a client that went waits for no key, and every other session as before
pub flag_went : (n : ℕ) (a : Sessions) (s : SessionId) → flag_of (without_client n a) s ≡ cond (same_session (Client n) s) None (flag_of a s)
flag_went n a s = ap (option_map flag) (wait_went n a s) ∙ of_choice (option_map flag) (same_session (Client n) s) None (wait_of a s)
