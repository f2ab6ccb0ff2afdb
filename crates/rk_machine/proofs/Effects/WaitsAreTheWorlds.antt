-- In every run the waits that the list tells are those of the world.
use Rattle.rk_machine.proofs.Words.{◌≡◌, ℕ, ◌∙◌, ◌||◌, ◌&&◌, Bool, true, false, cond, refl, ap, sym, not, List, option_map_or, nat_cmp, Option, Some, None}
use Rattle.rk_machine.proofs.Words.{nat_eq, option_map, option_and_then, is_none, eqb-true, Errno, SessionId, Client, Handler, Ask, Reply, Number, Bytes, Rings}
use Rattle.rk_machine.proofs.Words.{Condition, Key, spent, with_construction, with_context, with_setting, with_assumed, Sessions, new_session, session_of}
use Rattle.rk_machine.proofs.Words.{stage_of, is_to_launch, handler_in, Authority, Construction, Stage, Starting, Plain, Piped, Negating, Outcome, Found}
use Rattle.rk_machine.proofs.Words.{Failed, done, serial_named, announced, sessions_ended, ended, Event, is_done, same_session, is_wait_ended, is_waiting}
use Rattle.rk_machine.proofs.Words.{told_as, Past, World, Answer, Done, Start, Waiting, Refused, Negate, Opened, Asked, Launched, Ended, Collect, Gone, How}
use Rattle.rk_machine.proofs.Words.{get_inserted, none_is, and_false}
use Rattle.std.specs.FinMap as map
use Rattle.rk_message.specs.declared.ask.AskOf.TheVariants as ask
use Rattle.rk_machine.specs.declared.event.Ran.TheVariants as ran
use Rattle.rk_auth.specs.Changes.{launched}
use Rattle.rk_machine.specs.Laws.{wait_begun}
use Rattle.rk_machine.proofs.Effects.DrawnSerials.{is_drawn}
use Rattle.rk_machine.proofs.Effects.WaitsAfter.{same-true, flag, flag_in, flag_of, flag_kept, flag_collected, flag_begun, flag_told, flag_spent, flag_launched}
use Rattle.rk_machine.proofs.Effects.WaitsAfter.{flag_removed, flag_issued, flag_came, flag_went}
use Rattle.rk_machine.proofs.Effects.KindsOfStep.{Effect}
use Rattle.rk_machine.proofs.Effects.OfSessions.{InSessions, in_sessions, is_refused, waits_on, collects, comes, greeted, goes, starts, waits_for, answered}
use Rattle.rk_machine.proofs.Effects.OfSessions.{told, is_set, assumed, concluded, runs_plain, runs_piped, follows, not_run, ends}
use Rattle.rk_machine.proofs.Effects.LeftByOutcomes.{left_announced, left_settled}

-- a step of the past
abbrev pub step : ℕ → Event → Answer → Past
step now e a = record { now = now; event = e; answer = a }

-- the wait of s after a step, by the one before
abbrev pub after : ℕ → SessionId → Event → Answer → Option (ℕ × Bool) → Option (ℕ × Bool)
after now s e a r = option_map_or (λ w. Some w) (wait_begun s e a) (cond (is_wait_ended s (step now e a)) None r)

-- ---- the list's side

or_false : (a : Bool) → (a || false) ≡ a
or_false true = refl
or_false false = refl

quiet_after : (now : ℕ) (s : SessionId) (e : Event) (a : Answer) (r : Option (ℕ × Bool)) → wait_begun s e a ≡ None → is_wait_ended s (step now e a) ≡ false
    → after now s e a r ≡ r
quiet_after now s e a r begun over = λ i. option_map_or (λ w. Some w) (begun i) (cond (over i) None r)

cleared_after : (now : ℕ) (s : SessionId) (e : Event) (a : Answer) (b : Bool) (r : Option (ℕ × Bool)) → wait_begun s e a ≡ None
    → is_wait_ended s (step now e a) ≡ b → after now s e a r ≡ cond b None r
cleared_after now s e a b r begun over = λ i. option_map_or (λ w. Some w) (begun i) (cond (over i) None r)

chosen : (b : Bool) (v : ℕ × Bool) (r : Option (ℕ × Bool)) → option_map_or (λ w. Some w) (cond b (Some v) None) r ≡ cond b (Some v) r
chosen true v r = refl
chosen false v r = refl

-- no wait begins where the event is refused
pub begun_refused : (s : SessionId) (e : Event) (error : Errno) → wait_begun s e (Refused error) ≡ None
begun_refused s (Asked t x) error = refl
begun_refused s _ error = refl

-- an ask ends no wait
over_asked : (now : ℕ) (s t : SessionId) (x : Ask) (a : Answer) → is_wait_ended s (step now (Asked t x) a) ≡ false
over_asked now (Client n) t x a = ap (λ b. b || false) (and_false (is_done a) false refl)
over_asked now (Handler k) t x a = λ i. and_false (is_done a) false refl i || and_false (is_done a) false refl i

done_after : (now : ℕ) (s t : SessionId) (x : Ask) (reply : Reply) (r : Option (ℕ × Bool)) → after now s (Asked t x) (Done reply) r ≡ r
done_after now s t x reply r = quiet_after now s (Asked t x) (Done reply) r refl (over_asked now s t x (Done reply))

begun_after : (now : ℕ) (s t : SessionId) (x : Ask) (a : Answer) (v : ℕ × Bool) (r : Option (ℕ × Bool))
    → wait_begun s (Asked t x) a ≡ cond (same_session t s) (Some v) None → after now s (Asked t x) a r ≡ cond (same_session t s) (Some v) r
begun_after now s t x a v r begun =
    (λ i. option_map_or (λ w. Some w) (begun i) (cond (over_asked now s t x a i) None r)) ∙ chosen (same_session t s) v r

over_other : (now : ℕ) (s : SessionId) (n : ℕ) → is_wait_ended s (step now (Opened (Client n)) done) ≡ false
over_other now (Client m) n = refl
over_other now (Handler k) n = refl

over_gone : (now : ℕ) (s : SessionId) (n : ℕ) → is_wait_ended s (step now (Gone (Client n)) done) ≡ same_session (Client n) s
over_gone now (Client m) n = or_false (same_session (Client n) (Client m))
over_gone now (Handler k) n = refl

folded : (b p q : Bool) → p ≡ false → q ≡ false → (b && true || p || q) ≡ b
folded true p q np nq = refl
folded false p q np nq = λ i. np i || nq i

told_quiet : (o : Outcome) → is_waiting (told_as o) ≡ false
told_quiet (Found k) = refl
told_quiet (Failed e) = refl

over_collected : (now : ℕ) (s t : SessionId) (o : Outcome) → is_wait_ended s (step now (Collect t) (told_as o)) ≡ same_session t s
over_collected now (Client n) t o =
    ap (λ b. same_session t (Client n) && not b || (is_done (told_as o) && false) || false) (told_quiet o)
    ∙ folded (same_session t (Client n)) _ false (and_false (is_done (told_as o)) false refl) refl
over_collected now (Handler k) t o =
    ap (λ b. same_session t (Handler k) && not b || (is_done (told_as o) && false) || (is_done (told_as o) && false)) (told_quiet o)
    ∙ folded (same_session t (Handler k)) _ _ (and_false (is_done (told_as o)) false refl) (and_false (is_done (told_as o)) false refl)

begun_told : (s t : SessionId) (o : Outcome) → wait_begun s (Collect t) (told_as o) ≡ None
begun_told s t o = refl

-- a refusal ends no wait, but for a collect of a session that has none
refused_after : (now : ℕ) (s : SessionId) (e : Event) (error : Errno) (r : Option (ℕ × Bool))
    → ((t : SessionId) → e ≡ Collect t → same_session t s ≡ true → r ≡ None) → after now s e (Refused error) r ≡ r
refused_after now s e error r free = cleared_after now s e (Refused error) _ r (begun_refused s e error) refl ∙ emptied e refl s refl
  where
    none_or : (b : Bool) → (b ≡ true → r ≡ None) → cond b None r ≡ r
    none_or true h = sym (h refl)
    none_or false h = refl

    emptied : (y : Event) → e ≡ y → (z : SessionId) → s ≡ z → cond (is_wait_ended s (step now e (Refused error))) None r ≡ r
    emptied y ey (Client m) ez =
        ap (λ v. cond (is_wait_ended v (step now e (Refused error))) None r) ez
        ∙ ap (λ v. cond (is_wait_ended (Client m) (step now v (Refused error))) None r) ey ∙ client y ey
      where
        client : (y : Event) → e ≡ y → cond (is_wait_ended (Client m) (step now y (Refused error))) None r ≡ r
        client (Collect t) ey =
            ap (λ b. cond b None r) (folded (same_session t (Client m)) false false refl refl)
            ∙ none_or (same_session t (Client m)) (λ same. free t ey (ap (same_session t) ez ∙ same))
        client _ ey = refl
    emptied y ey (Handler k) ez =
        ap (λ v. cond (is_wait_ended v (step now e (Refused error))) None r) ez
        ∙ ap (λ v. cond (is_wait_ended (Handler k) (step now v (Refused error))) None r) ey ∙ handler y ey
      where
        handler : (y : Event) → e ≡ y → cond (is_wait_ended (Handler k) (step now y (Refused error))) None r ≡ r
        handler (Collect t) ey =
            ap (λ b. cond b None r) (folded (same_session t (Handler k)) false false refl refl)
            ∙ none_or (same_session t (Handler k)) (λ same. free t ey (ap (same_session t) ez ∙ same))
        handler _ ey = refl

-- ---- the world's side

flag_announced : (now k : ℕ) (keys : map.FinMap nat_cmp Key) (a : Sessions) (s : SessionId) → flag_of (announced now k keys a) s ≡ flag_of a s
flag_announced now k keys a s = left_announced (λ b. flag_of b s) (λ j o b. flag_told j o b s) now k keys a

flag_settled : (now k : ℕ) (condition : Condition) (w : World) (s : SessionId) → flag_of (sessions_ended now k condition w) s ≡ flag_of w.sessions s
flag_settled now k condition w s = left_settled (λ b. flag_of b s) (λ j o b. flag_told j o b s) (λ j b. flag_spent j b s) now k condition w

flag_ended : (now k : ℕ) (condition : Condition) (w : World) (s : SessionId)
    → flag_of (ended now k condition w).sessions s ≡ cond (same_session (Handler k) s) None (flag_of w.sessions s)
flag_ended now k condition w s =
    flag_removed k (sessions_ended now k condition w) s ∙ ap (cond (same_session (Handler k) s) None) (flag_settled now k condition w s)

-- a construction without a session of its handler
-- (one that is to be started, or is piped)
no_flag : (a : Sessions) (k : ℕ) (is : Stage) → handler_in is ≡ None → stage_of a k ≡ Some is → flag_of a (Handler k) ≡ None
no_flag a k is none h = found (map.get a.constructions k) h
  where
    by_stage : (st : Stage) → Some st ≡ Some is → flag_in (handler_in st) ≡ None
    by_stage st e = ap (λ (o : Option Stage). flag_in (option_and_then handler_in o)) e ∙ ap flag_in none

    found : (o : Option Construction) → option_map (λ c. c.stage) o ≡ Some is → flag_in (option_and_then (λ c. handler_in c.stage) o) ≡ None
    found None e = absurd (cc)
    found (Some c) e = by_stage c.stage e

none_or_same : (b : Bool) (r : Option (ℕ × Bool)) → (b ≡ true → r ≡ None) → cond b None r ≡ r
none_or_same true r h = sym (h refl)
none_or_same false r h = refl

launched_after : (now k : ℕ) (s : SessionId) (r : Option (ℕ × Bool)) → after now s (Launched k ran.Plain) done r ≡ r
launched_after now k (Client n) r = refl
launched_after now k (Handler j) r = refl

piped_after : (now k : ℕ) (s : SessionId) (r : Option (ℕ × Bool)) → after now s (Launched k ran.Piped) done r ≡ r
piped_after now k (Client n) r = refl
piped_after now k (Handler j) r = refl

negated_after : (now k : ℕ) (how : How) (payload : Option (List ℕ)) (s : SessionId) (r : Option (ℕ × Bool)) → after now s (Ended k how payload) (Negate k) r ≡ r
negated_after now k how payload (Client n) r = refl
negated_after now k how payload (Handler j) r = refl

-- a handler that is to be started has none
waiting_handler : (st : Stage) → is_to_launch (Some st) ≡ true → handler_in st ≡ None
waiting_handler Starting h = refl
waiting_handler (Plain s) h = absurd (cc)
waiting_handler Piped h = refl
waiting_handler Negating h = refl

failed_after : (now k : ℕ) (s : SessionId) (r : Option (ℕ × Bool)) → after now s (Launched k ran.Failed) done r ≡ cond (same_session (Handler k) s) None r
failed_after now k (Client n) r = refl
failed_after now k (Handler j) r = refl

finished_after : (now k : ℕ) (how : How) (payload : Option (List ℕ)) (s : SessionId) (r : Option (ℕ × Bool))
    → after now s (Ended k how payload) done r ≡ cond (same_session (Handler k) s) None r
finished_after now k how payload (Client n) r = refl
finished_after now k how payload (Handler j) r = refl

still_after : (now : ℕ) (s t : SessionId) (k : ℕ) (r : Option (ℕ × Bool)) → after now s (Collect t) (Waiting k) r ≡ r
still_after now (Client n) t k r =
    ap (λ b. option_map_or (λ w. Some w) None (cond (b || false || false) None r)) (and_false (same_session t (Client n)) false refl)
still_after now (Handler j) t k r =
    ap (λ b. option_map_or (λ w. Some w) None (cond (b || false || false) None r)) (and_false (same_session t (Handler j)) false refl)

-- not drawn: no construction
abbrev pub IdleFresh : World → Type 0
IdleFresh w = (k : ℕ) → is_drawn w k ≡ false → map.get w.sessions.constructions k ≡ None

-- who is there is there beside a new construction
pub there_issued : (k : ℕ) (authority : Authority) (a : Sessions) (t : SessionId) → map.get a.constructions k ≡ None → is_none (session_of a t) ≡ false
    → is_none (session_of (with_construction k authority a) t) ≡ false
there_issued k authority a (Client n) new h = h
there_issued k authority a (Handler j) new h =
    ap (λ o. is_none (option_and_then (λ (c : Construction). handler_in c.stage) o)) (get_inserted a.constructions k _ j) ∙ kept (nat_eq k j) refl
  where
    kept : (b : Bool) → nat_eq k j ≡ b → is_none (option_and_then (λ (c : Construction). handler_in c.stage)
        (cond b (Some (record { stage = Starting; authority = Some authority })) (map.get a.constructions j))) ≡ false
    kept true same =
        let none : session_of a (Handler j) ≡ None = ap (λ i. option_and_then (λ (c : Construction). handler_in c.stage) (map.get a.constructions i))
        (sym (eqb-true k j same)) ∙ ap (option_and_then (λ (c : Construction). handler_in c.stage)) new in ap is_none (sym none) ∙ h
    kept false other = h

-- a launch leaves for which key each session waits, if the handler had no session
flag_still : (k : ℕ) (st was : Stage) (a : Sessions) (s : SessionId) → flag_in (handler_in st) ≡ None → handler_in was ≡ None → stage_of a k ≡ Some was
    → flag_of (launched k st a) s ≡ flag_of a s
flag_still k st was a s none absent is =
    flag_launched k st none a s ∙ none_or_same (same_session (Handler k) s) _
    (λ same. ap (flag_of a) (sym (same-true (Handler k) s same)) ∙ no_flag a k was absent is)

-- for which key a session waits after a step results from the event, its answer and for which it waited
pub tied : (old : World) (now : ℕ) (e : Event) (a : Answer) (new : World) → Effect old now e a new → IdleFresh old → (s : SessionId)
    → flag_of new.sessions s ≡ after now s e a (flag_of old.sessions s)
tied old now e a new is idle s = by_case e a new.sessions (in_sessions old now e a new is)
  where
    by_case : (e : Event) (a : Answer) (b : Sessions) → InSessions old new now e a b → flag_of b s ≡ after now s e a (flag_of old.sessions s)
    by_case e a b (is_refused y error w free) =
        sym (refused_after now s y error _ (λ t ev same. ap (flag_of old.sessions) (sym (same-true t s same)) ∙ ap (option_map flag) (free t ev)))
    by_case e a b (waits_on t wait is ready) = sym (still_after now s t wait.key _)
    by_case e a b (collects t wait outcome is ready) =
        flag_collected t old.sessions s
        ∙ sym (cleared_after now s (Collect t) (told_as outcome) _ _ (begun_told s t outcome) (over_collected now s t outcome))
    by_case e a b (comes n fresh) =
        flag_came n old.sessions s (none_is (map.get old.sessions.clients n) fresh) ∙ sym (quiet_after now s (Opened (Client n)) done _ refl (over_other now s n))
    by_case e a b (goes n there) = flag_went n old.sessions s ∙ sym (cleared_after now s (Gone (Client n)) done _ _ refl (over_gone now s n))
    by_case e a b (greeted n hello c thread process session user can) =
        flag_kept (Client n) (with_context c) (λ x. refl) old.sessions s ∙ sym (done_after now s (Client n) (ask.Hello hello) (Rings thread process session user) (flag_of old.sessions s))
    by_case e a b (starts t typ description callout r k subject authority names can fresh drawn) =
        flag_begun t k true _ s (there_issued k authority old.sessions t (idle k fresh.unused) can.there)
        ∙ ap (cond (same_session t s) (Some (k, true))) (flag_issued k authority old.sessions s (idle k fresh.unused))
        ∙ sym (begun_after now s t (ask.Request typ description (Some callout) r) (Start k subject) (k, true) _ refl)
    by_case e a b (waits_for t x k asks can apart) =
        flag_begun t k false old.sessions s can.there ∙ sym (begun_after now s t x (Waiting k) (k, false) _ refl)
    by_case e a b (answered t x n plain) = sym (done_after now s t x (Number n) (flag_of old.sessions s))
    by_case e a b (told t x bytes w) = sym (done_after now s t x (Bytes bytes) (flag_of old.sessions s))
    by_case e a b (is_set t x setting n plain can) =
        flag_kept t (with_setting setting) (λ x. refl) old.sessions s ∙ sym (done_after now s t x (Number n) (flag_of old.sessions s))
    by_case e a b (assumed t key can none) =
        flag_kept t (with_assumed (serial_named key)) (λ x. refl) old.sessions s
        ∙ sym (done_after now s t (ask.Assume key) (Number 0) (flag_of old.sessions s))
    by_case e a b (concluded t x asker k keys which is own) =
        flag_announced now k keys (spent k old.sessions) s ∙ flag_spent k old.sessions s ∙ sym (done_after now s t x (Number 0) (flag_of old.sessions s))
    by_case e a b (runs_plain k st is launches) =
        flag_still k (Plain new_session) st old.sessions s refl (waiting_handler st launches) is ∙ sym (launched_after now k s _)
    by_case e a b (runs_piped k is) = flag_still k Piped Starting old.sessions s refl refl is ∙ sym (piped_after now k s _)
    by_case e a b (follows k how payload is free) = flag_still k Negating Piped old.sessions s refl refl is ∙ sym (negated_after now k how payload s _)
    by_case e a b (not_run k st condition is launches) = flag_ended now k condition old s ∙ sym (failed_after now k s _)
    by_case e a b (ends k how payload st condition is running) = flag_ended now k condition old s ∙ sym (finished_after now k how payload s _)
