-- What is owed to each session, after each thing that a step may do.
use Rattle.rk_machine.proofs.Words.{◌≡◌, ℕ, ◌∙◌, ◌+◌, Bool, true, false, cond, refl, ap, sym, option_map_or, nat_cmp, Option, Some, None, nat_eq, is_some}
use Rattle.rk_machine.proofs.Words.{option_map, option_and_then, eqb-true, SessionId, Client, Handler, Condition, Key, session_changed, in_handler}
use Rattle.rk_machine.proofs.Words.{in_new_stage, spent, without_authority, without_construction, with_construction, all_told, told, with_client}
use Rattle.rk_machine.proofs.Words.{without_client, with_assumed, in_stage, told_wait, Sessions, new_session, session_of, stage_of, handler_in, Authority}
use Rattle.rk_machine.proofs.Words.{Construction, Stage, Starting, Plain, Piped, Negating, Outcome, Session, Wait, announced, sessions_ended, ended}
use Rattle.rk_machine.proofs.Words.{same_session, client_owes, stage_owes, construction_owes, wait_owes, places, World, get_inserted, get_removed}
use Rattle.rk_machine.proofs.Words.{get_changed_at, get_changed_all, of_choice}
use Rattle.std.specs.FinMap as map
use Rattle.rk_auth.specs.Changes.{launched}
use Rattle.rk_machine.proofs.Effects.LeftByOutcomes.{left_announced, left_settled}

abbrev at_client : Option Session → ℕ
at_client o = option_map_or client_owes o 0

abbrev at_construction : Option Construction → ℕ
at_construction o = option_map_or construction_owes o 0

-- whether it waits is left
abbrev pub KeepsPlaces : (Session → Session) → Type 0
KeepsPlaces f = (s : Session) → wait_owes (f s) ≡ wait_owes s

-- ---- a change of one value, or of all

client_kept : (f : Session → Session) → KeepsPlaces f → (b : Bool) (o : Option Session) → at_client (cond b (option_map f o) o) ≡ at_client o
client_kept f h true None = refl
client_kept f h true (Some s) = ap (λ n. 1 + n) (h s)
client_kept f h false o = refl

stage_kept : (f : Session → Session) → KeepsPlaces f → (st : Stage) → stage_owes (in_stage f st) ≡ stage_owes st
stage_kept f h Starting = refl
stage_kept f h (Plain s) = ap (λ n. 1 + n) (h s)
stage_kept f h Piped = refl
stage_kept f h Negating = refl

handler_kept : (f : Session → Session) → KeepsPlaces f → (b : Bool) (o : Option Construction)
    → at_construction (cond b (option_map (in_handler f) o) o) ≡ at_construction o
handler_kept f h true None = refl
handler_kept f h true (Some c) = stage_kept f h c.stage
handler_kept f h false o = refl

-- ---- one session is changed

-- a change of a session that leaves whether it waits leaves what is owed to each session
pub places_kept : (id : SessionId) (f : Session → Session) → KeepsPlaces f → (a : Sessions) (s : SessionId) → places (session_changed id f a) s ≡ places a s
places_kept (Client n) f h a (Client m) = ap at_client (get_changed_at n f a.clients m) ∙ client_kept f h (nat_eq n m) (map.get a.clients m)
places_kept (Client n) f h a (Handler k) = refl
places_kept (Handler j) f h a (Client m) = refl
places_kept (Handler j) f h a (Handler k) =
    ap at_construction (get_changed_at j (in_handler f) a.constructions k) ∙ handler_kept f h (nat_eq j k) (map.get a.constructions k)

-- a change of a session leaves what is owed to every other
pub places_other : (id : SessionId) (f : Session → Session) (a : Sessions) (s : SessionId) → same_session id s ≡ false
    → places (session_changed id f a) s ≡ places a s
places_other (Client n) f a (Client m) other =
    ap at_client (get_changed_at n f a.clients m ∙ ap (λ b. cond b (option_map f (map.get a.clients m)) (map.get a.clients m)) other)
places_other (Client n) f a (Handler k) other = refl
places_other (Handler j) f a (Client m) other = refl
places_other (Handler j) f a (Handler k) other =
    ap at_construction (get_changed_at j (in_handler f) a.constructions k ∙ ap
    (λ b. cond b (option_map (in_handler f) (map.get a.constructions k)) (map.get a.constructions k)) other)

-- who is there is owed its end, and its wait
pub places_there : (a : Sessions) (s : SessionId) (x : Session) → session_of a s ≡ Some x → places a s ≡ 1 + wait_owes x
places_there a (Client n) x is = ap at_client is
places_there a (Handler k) x is = found (map.get a.constructions k) is
  where
    by_stage : (st : Stage) → handler_in st ≡ Some x → stage_owes st ≡ 1 + wait_owes x
    by_stage Starting e = absurd (cc)
    by_stage (Plain y) e = let same : y ≡ x = cc in ap (λ (z : Session). 1 + wait_owes z) same
    by_stage Piped e = absurd (cc)
    by_stage Negating e = absurd (cc)

    found : (o : Option Construction) → option_and_then (λ c. handler_in c.stage) o ≡ Some x → at_construction o ≡ 1 + wait_owes x
    found None e = absurd (cc)
    found (Some c) e = by_stage c.stage e

-- ---- completion

told_waits : (k : ℕ) (o : Outcome) → KeepsPlaces (told k o)
told_waits k o s = by_wait s.wait
  where
    by_wait : (w : Option Wait) → ◌≡◌ {A = ℕ} (cond (is_some (option_map (told_wait k o) w)) 1 0) (cond (is_some w) 1 0)
    by_wait None = refl
    by_wait (Some v) = refl

client_all : (f : Session → Session) → KeepsPlaces f → (o : Option Session) → at_client (option_map f o) ≡ at_client o
client_all f h None = refl
client_all f h (Some s) = ap (λ n. 1 + n) (h s)

handler_all : (f : Session → Session) → KeepsPlaces f → (o : Option Construction) → at_construction (option_map (in_handler f) o) ≡ at_construction o
handler_all f h None = refl
handler_all f h (Some c) = stage_kept f h c.stage

pub places_told : (k : ℕ) (o : Outcome) (a : Sessions) (s : SessionId) → places (all_told k o a) s ≡ places a s
places_told k o a (Client n) = ap at_client (get_changed_all (told k o) a.clients n) ∙ client_all (told k o) (told_waits k o) (map.get a.clients n)
places_told k o a (Handler j) =
    ap at_construction (get_changed_all (in_handler (told k o)) a.constructions j) ∙ handler_all (told k o) (told_waits k o) (map.get a.constructions j)

spent_in : (b : Bool) (o : Option Construction) → at_construction (cond b (option_map without_authority o) o) ≡ at_construction o
spent_in true None = refl
spent_in true (Some c) = stage_kept (with_assumed None) (λ s. refl) c.stage
spent_in false o = refl

-- spending an authority leaves what is owed to each session
pub places_spent : (k : ℕ) (a : Sessions) (s : SessionId) → places (spent k a) s ≡ places a s
places_spent k a (Client n) = refl
places_spent k a (Handler j) = ap at_construction (get_changed_at k without_authority a.constructions j) ∙ spent_in (nat_eq k j) (map.get a.constructions j)

-- an outcome leaves what is owed to each session
pub places_announced : (now k : ℕ) (keys : map.FinMap nat_cmp Key) (a : Sessions) (s : SessionId) → places (announced now k keys a) s ≡ places a s
places_announced now k keys a s = left_announced (λ b. places b s) (λ j o b. places_told j o b s) now k keys a

places_settled : (now k : ℕ) (condition : Condition) (w : World) (s : SessionId) → places (sessions_ended now k condition w) s ≡ places w.sessions s
places_settled now k condition w s =
    left_settled (λ b. places b s) (λ j o b. places_told j o b s) (λ j b. places_spent j b s) now k condition w

-- ---- constructions

pub places_removed : (k : ℕ) (a : Sessions) (s : SessionId) → places (without_construction k a) s ≡ cond (same_session (Handler k) s) 0 (places a s)
places_removed k a (Client n) = refl
places_removed k a (Handler j) = ap at_construction (get_removed a.constructions k j) ∙ of_choice at_construction (nat_eq k j) None (map.get a.constructions j)

-- nothing is owed to a construction that has ended, and to every other session what was
pub places_ended : (now k : ℕ) (condition : Condition) (w : World) (s : SessionId)
    → places (ended now k condition w).sessions s ≡ cond (same_session (Handler k) s) 0 (places w.sessions s)
places_ended now k condition w s =
    places_removed k (sessions_ended now k condition w) s ∙ ap (cond (same_session (Handler k) s) 0) (places_settled now k condition w s)

-- 4 places are owed to a construction that begins, and to every other session what was
pub places_issued : (k : ℕ) (authority : Authority) (a : Sessions) (s : SessionId)
    → places (with_construction k authority a) s ≡ cond (same_session (Handler k) s) 4 (places a s)
places_issued k authority a (Client n) = refl
places_issued k authority a (Handler j) =
    ap at_construction (get_inserted a.constructions k _ j)
    ∙ of_choice at_construction (nat_eq k j) (Some (record { stage = Starting; authority = Some authority })) (map.get a.constructions j)

launched_in : (st : Stage) (b : Bool) (o : Option Construction) → (b ≡ true → is_some o ≡ true)
    → at_construction (cond b (option_map (in_new_stage st) o) o) ≡ cond b (stage_owes st) (at_construction o)
launched_in st true None there = absurd (let e = there refl in cc)
launched_in st true (Some c) there = refl
launched_in st false o there = refl

-- a construction in a stage is there, and is owed what its stage says
pub stage_there : (a : Sessions) (k : ℕ) (st : Stage) → stage_of a k ≡ Some st
    → (is_some (map.get a.constructions k) ≡ true) × (places a (Handler k) ≡ stage_owes st)
stage_there a k st h = found (map.get a.constructions k) h
  where
    found : (o : Option Construction) → option_map (λ c. c.stage) o ≡ Some st → (is_some o ≡ true) × (at_construction o ≡ stage_owes st)
    found None e = absurd (cc)
    found (Some c) e = (refl, (let same : c.stage ≡ st = cc in ap stage_owes same))

-- a construction whose handler is launched is owed what its stage says, and every other session what it was
pub places_launched : (k : ℕ) (st : Stage) (a : Sessions) (s : SessionId) → is_some (map.get a.constructions k) ≡ true
    → places (launched k st a) s ≡ cond (same_session (Handler k) s) (stage_owes st) (places a s)
places_launched k st a (Client n) there = refl
places_launched k st a (Handler j) there =
    ap at_construction (get_changed_at k (in_new_stage st) a.constructions j)
    ∙ launched_in st (nat_eq k j) (map.get a.constructions j) (λ same. ap (λ i. is_some (map.get a.constructions i)) (sym (eqb-true k j same)) ∙ there)

-- ---- clients

-- 1 place is owed to a client that comes, and to every other session what was
pub places_came : (n : ℕ) (a : Sessions) (s : SessionId) → places (with_client n a) s ≡ cond (same_session (Client n) s) 1 (places a s)
places_came n a (Client m) = ap at_client (get_inserted a.clients n new_session m) ∙ of_choice at_client (nat_eq n m) (Some new_session) (map.get a.clients m)
places_came n a (Handler k) = refl

-- nothing is owed to a client that is gone, and to every other session what was
pub places_went : (n : ℕ) (a : Sessions) (s : SessionId) → places (without_client n a) s ≡ cond (same_session (Client n) s) 0 (places a s)
places_went n a (Client m) = ap at_client (get_removed a.clients n m) ∙ of_choice at_client (nat_eq n m) None (map.get a.clients m)
places_went n a (Handler k) = refl

-- a client that is there has a session
pub client_there : (a : Sessions) (n : ℕ) → map.contains_key a.clients n ≡ true → (x : Session) × (session_of a (Client n) ≡ Some x)
client_there a n h = found (map.get a.clients n) h
  where
    found : (o : Option Session) → is_some o ≡ true → (x : Session) × (o ≡ Some x)
    found None e = absurd (cc)
    found (Some x) e = (x, refl)
