-- Which clients are there, and who waits, after each step of the machine.
use Rattle.rk_machine.proofs.Words.{◌≡◌, ℕ, ◌∙◌, ◌||◌, ◌&&◌, Bool, true, false, cond, refl, ap, sym, not, option_map_or, nat_cmp, Option, Some, None, nat_eq}
use Rattle.rk_machine.proofs.Words.{is_some, option_map, option_and_then, Errno, SessionId, Client, Handler, Condition, Key, session_changed, spent}
use Rattle.rk_machine.proofs.Words.{with_construction, all_told, told, with_context, ready_outcome, Sessions, new_session, wait_of, Outcome, Session, Wait}
use Rattle.rk_machine.proofs.Words.{announced, ended, Event, is_done, same_session, is_wait_ended, collected, is_ready, has_wait, World, Answer, Start, Waiting}
use Rattle.rk_machine.proofs.Words.{Refused, Opened, Asked, Collect, Gone, get_inserted, get_removed, get_changed_at, get_changed_all, by_option, Step}
use Rattle.std.specs.FinMap as map
use Rattle.rk_machine.specs.Laws.{wait_begun}
use Rattle.rk_machine.proofs.Effects.WaitsAfter.{flag, flag_of, flag_collected, same-self}
use Rattle.rk_machine.proofs.Effects.WaitsAreTheWorlds.{after, step, tied, IdleFresh}
use Rattle.rk_machine.proofs.Effects.KindsOfStep.{Effect, effect}
use Rattle.rk_machine.proofs.Effects.OfSessions.{InSessions, in_sessions, is_refused, collects, comes, greeted, goes, starts, waits_for, is_set, assumed}
use Rattle.rk_machine.proofs.Effects.OfSessions.{concluded, not_run, ends}
use Rattle.rk_machine.proofs.Effects.LeftByOutcomes.{left_announced, left_settled}

-- ---- clients

-- a client of this number is there
abbrev pub is_client : Sessions → ℕ → Bool
is_client a n = map.contains_key a.clients n

kept_at : {V : Type 0} (f : V → V) (b : Bool) (o : Option V) → is_some (cond b (option_map f o) o) ≡ is_some o
kept_at f true None = refl
kept_at f true (Some x) = refl
kept_at f false o = refl

kept_all : {V X : Type 0} (f : V → X) (o : Option V) → is_some (option_map f o) ≡ is_some o
kept_all f None = refl
kept_all f (Some x) = refl

client_changed : (s : SessionId) (f : Session → Session) (a : Sessions) (n : ℕ) → is_client (session_changed s f a) n ≡ is_client a n
client_changed (Client m) f a n = ap is_some (get_changed_at m f a.clients n) ∙ kept_at f (nat_eq m n) (map.get a.clients n)
client_changed (Handler k) f a n = refl

client_told : (k : ℕ) (o : Outcome) (a : Sessions) (n : ℕ) → is_client (all_told k o a) n ≡ is_client a n
client_told k o a n = ap is_some (get_changed_all (told k o) a.clients n) ∙ kept_all (told k o) (map.get a.clients n)

client_announced : (now k : ℕ) (keys : map.FinMap nat_cmp Key) (a : Sessions) (n : ℕ) → is_client (announced now k keys a) n ≡ is_client a n
client_announced now k keys a n = left_announced (λ b. is_client b n) (λ j o b. client_told j o b n) now k keys a

client_ended : (now k : ℕ) (condition : Condition) (w : World) (n : ℕ) → is_client (ended now k condition w).sessions n ≡ is_client w.sessions n
client_ended now k condition w n = left_settled (λ b. is_client b n) (λ j o b. client_told j o b n) (λ j b. refl) now k condition w

came_in : (b : Bool) (o : Option Session) → is_some (cond b (Some new_session) o) ≡ (b || is_some o)
came_in true o = refl
came_in false o = refl

went_in : (b : Bool) (o : Option Session) → is_some (cond b None o) ≡ (not b && is_some o)
went_in true o = refl
went_in false o = refl

-- whether the client is there after a step, by whether it was before
abbrev pub client_after : ℕ → Event → Answer → Bool → Bool
client_after n (Opened (Client m)) a b = (is_done a && nat_eq m n) || b
client_after n (Gone (Client m)) a b = not (is_done a && nat_eq m n) && b
client_after n e a b = b

refused_client : (n : ℕ) (e : Event) (error : Errno) (b : Bool) → client_after n e (Refused error) b ≡ b
refused_client n (Opened (Client m)) error b = refl
refused_client n (Gone (Client m)) error b = refl
refused_client n _ error b = refl

-- which clients are there after a step results from the event, its answer and which were there
pub clients : (old : World) (now : ℕ) (e : Event) (a : Answer) (new : World) → Effect old now e a new → (n : ℕ)
    → is_client new.sessions n ≡ client_after n e a (is_client old.sessions n)
clients old now e a new is n = by_case e a new.sessions (in_sessions old now e a new is)
  where
    by_case : (e : Event) (a : Answer) (b : Sessions) → InSessions old new now e a b → is_client b n ≡ client_after n e a (is_client old.sessions n)
    by_case e a b (is_refused y error w free) = sym (refused_client n y error _)
    by_case e a b (collects s wait outcome is ready) = client_changed s _ old.sessions n
    by_case e a b (comes m fresh) = ap is_some (get_inserted old.sessions.clients m new_session n) ∙ came_in (nat_eq m n) (map.get old.sessions.clients n)
    by_case e a b (goes m there) = ap is_some (get_removed old.sessions.clients m n) ∙ went_in (nat_eq m n) (map.get old.sessions.clients n)
    by_case e a b (greeted m hello c thread process session user can) = client_changed (Client m) (with_context c) old.sessions n
    by_case e a b (starts s typ description callout r k subject authority names can fresh drawn) = client_changed s _ (with_construction k authority old.sessions) n
    by_case e a b (waits_for s x k asks can apart) = client_changed s _ old.sessions n
    by_case e a b (is_set s x setting m plain can) = client_changed s _ old.sessions n
    by_case e a b (assumed s key can none) = client_changed s _ old.sessions n
    by_case e a b (concluded s x asker k keys which is own) = client_announced now k keys (spent k old.sessions) n
    by_case e a b (not_run k st condition is launches) = client_ended now k condition old n
    by_case e a b (ends k how payload st condition is running) = client_ended now k condition old n
    by_case e a b _ = refl

-- ---- who waits

-- this session asks
abbrev pub asks_by : SessionId → Event → Bool
asks_by s (Asked t x) = same_session t s
asks_by s e = false

waits_flag : (w : World) (s : SessionId) → has_wait w s ≡ is_some (flag_of w.sessions s)
waits_flag w s = sym (kept_all flag (wait_of w.sessions s))

none_begun : (s : SessionId) (e : Event) (a : Answer) → asks_by s e ≡ false → wait_begun s e a ≡ None
none_begun s (Asked t x) (Start k subject) h = ap (λ b. cond b (Some (k, true)) None) h
none_begun s (Asked t x) (Waiting k) h = ap (λ b. cond b (Some (k, false)) None) h
none_begun s _ a h = refl

still_some : (b : Bool) (o : Option (ℕ × Bool)) → is_some (cond b None o) ≡ true → is_some o ≡ true
still_some true o h = absurd (cc)
still_some false o h = h

-- only who asks may wait from a step on
pub gains : (old : World) (now : ℕ) (e : Event) (a : Answer) (new : World) → Step old now e a new → IdleFresh old → (s : SessionId) → asks_by s e ≡ false
    → has_wait new s ≡ true → has_wait old s ≡ true
gains old now e a new h idle s quiet waits =
    let is = tied old now e a new (effect old now e a new h) idle s in
    let left : after now s e a (flag_of old.sessions s) ≡ cond (is_wait_ended s (step now e a)) None (flag_of old.sessions s) =
    ap (λ (o : Option (ℕ × Bool)). option_map_or (λ w. Some w) o (cond (is_wait_ended s (step now e a)) None (flag_of old.sessions s)))
    (none_begun s e a quiet) in
    let some : is_some (cond (is_wait_ended s (step now e a)) None (flag_of old.sessions s)) ≡ true =
    ap is_some (sym (is ∙ left)) ∙ sym (waits_flag new s) ∙ waits in
    waits_flag old s ∙ still_some (is_wait_ended s (step now e a)) (flag_of old.sessions s) some

-- what may be collected is a wait
pub ready_waits : (w : World) (s : SessionId) → is_ready w s ≡ true → has_wait w s ≡ true
ready_waits w s ready = found (wait_of w.sessions s) ready
  where
    found : (o : Option Wait) → is_some (option_and_then (ready_outcome w.sessions) o) ≡ true → is_some o ≡ true
    found None e = absurd (cc)
    found (Some x) e = refl

no_flag : (w : World) (s : SessionId) → flag_of w.sessions s ≡ None → has_wait w s ≡ false
no_flag w s h = waits_flag w s ∙ ap is_some h

own_cleared : (old new : World) (s : SessionId) → new ≡ collected s old → has_wait new s ≡ false
own_cleared old new s e =
    no_flag new s (ap (λ (w : World). flag_of w.sessions s) e ∙ flag_collected s old.sessions s ∙ ap (λ b. cond b None (flag_of old.sessions s)) (same-self s))

-- a collect of what may be collected ends the wait
pub collect_ends : (old : World) (now : ℕ) (s : SessionId) (a : Answer) (new : World) → is_ready old s ≡ true → Step old now (Collect s) a new
    → has_wait new s ≡ false
unfolding Step
collect_ends old now s a new ready h =
    by_option (wait_of old.sessions s) _ _ _ (λ none _. absurd
    (let e : is_ready old s ≡ false = ap (λ (o : Option Wait). is_some (option_and_then (ready_outcome old.sessions) o)) none in cc)) (λ wait is g.
    by_option (ready_outcome old.sessions wait) _ _ _
    (λ none _. absurd (let e : is_ready old s ≡ false = ap (λ (o : Option Wait). is_some (option_and_then (ready_outcome old.sessions) o)) is
    ∙ ap is_some none in cc)) (λ outcome _ f. own_cleared old new s f.1) g) h
