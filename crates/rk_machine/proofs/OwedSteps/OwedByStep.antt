-- What a step does to what is owed.
use Rattle.rk_machine.proofs.Words.{◌≡◌, ℕ, ◌∙◌, ◌+◌, ◌≤◌, Bool, true, false, cond, refl, ap, sym, arith, option_map_or, Option, Some, None, is_some}
use Rattle.rk_machine.proofs.Words.{option_map, option_and_then, is_none, Errno, SessionId, Client, Handler, Subject, Ask, Number, Bytes, Rings}
use Rattle.rk_machine.proofs.Words.{session_changed, spent, with_construction, with_context, ready_outcome, with_client, with_wait, with_setting, with_assumed}
use Rattle.rk_machine.proofs.Words.{new_wait, Sessions, new_session, wait_of, session_of, is_to_launch, handler_in, Authority, Construction, Stage, Starting}
use Rattle.rk_machine.proofs.Words.{Plain, Piped, Negating, Outcome, Found, Failed, Session, Wait, done, serial_named, Event, same_session, is_request, whose}
use Rattle.rk_machine.proofs.Words.{client_owes, stage_owes, construction_owes, owed_to, start_owes, wait_owes, places, need, collected, told_as, is_ready}
use Rattle.rk_machine.proofs.Words.{is_owed, weight, World, Answer, Done, Start, Waiting, Refused, Negate, Opened, Asked, Launched, Ended, Collect, Gone}
use Rattle.rk_machine.proofs.Words.{true_false, is_ask, wait_made}
use Rattle.std.specs.FinMap as map
use Rattle.rk_message.specs.declared.ask.AskOf.TheVariants as ask
use Rattle.rk_machine.specs.declared.event.Ran.TheVariants as ran
use Rattle.rk_machine.proofs.Effects.WaitsAreTheWorlds.{IdleFresh, there_issued}
use Rattle.rk_machine.proofs.Effects.WaitsAfter.{same-true, same-self, session_of_changed}
use Rattle.rk_machine.proofs.OwedSteps.WeightsOfMaps.{but_one, but_two, all_same}
use Rattle.rk_machine.proofs.OwedSteps.OwedAfter.{places_kept, places_other, places_there, places_announced, places_spent, places_ended, places_issued}
use Rattle.rk_machine.proofs.OwedSteps.OwedAfter.{places_launched, stage_there, places_came, places_went, client_there}
use Rattle.rk_machine.proofs.Effects.OfSessions.{InSessions, is_refused, waits_on, collects, comes, goes, greeted, starts, waits_for, answered, told, is_set}
use Rattle.rk_machine.proofs.Effects.OfSessions.{assumed, concluded, runs_plain, runs_piped, follows, not_run, ends}

-- what is owed to s changes alone, and where a construction k starts, what is owed to it
pub data Change (s : SessionId) (a b : Sessions) (more : ℕ) : Type 0 where
  at_one : more ≡ 0 → ((t : SessionId) → same_session s t ≡ false → places b t ≡ places a t) → Change s a b more
  at_two : (k : ℕ) → more ≡ 4 → same_session s (Handler k) ≡ false → places a (Handler k) ≡ 0 → places b (Handler k) ≡ 4
      → ((t : SessionId) → same_session s t ≡ false → same_session (Handler k) t ≡ false → places b t ≡ places a t) → Change s a b more

abbrev total : Sessions → ℕ
total a = weight client_owes a.clients + weight construction_owes a.constructions

-- all of it, by the parts
pub balance : (s : SessionId) (a b : Sessions) (more : ℕ) → Change s a b more → total b + places a s ≡ total a + places b s + more
balance (Client n) a b more (at_one none same) =
    let one = but_one client_owes b.clients a.clients n (λ q other. same (Client q) other) in
    let rest = all_same construction_owes b.constructions a.constructions (λ q. same (Handler q) refl) in
    omega arith
balance (Handler j) a b more (at_one none same) =
    let one = but_one construction_owes b.constructions a.constructions j (λ q other. same (Handler q) other) in
    let rest = all_same client_owes b.clients a.clients (λ q. same (Client q) refl) in
    omega arith
balance (Client n) a b more (at_two k two apart before after same) =
    let one = but_one client_owes b.clients a.clients n (λ q other. same (Client q) other refl) in
    let rest = but_one construction_owes b.constructions a.constructions k (λ q other. same (Handler q) refl other) in
    omega arith
balance (Handler j) a b more (at_two k two apart before after same) =
    let one = but_two construction_owes b.constructions a.constructions j k apart (λ q other others. same (Handler q) other others) in
    let rest = all_same client_owes b.clients a.clients (λ q. same (Client q) refl refl) in
    omega arith

-- ---- what a step leaves

abbrev Moves : World → Event → Answer → Sessions → Type 0
Moves old e a b =
    Change (whose e) old.sessions b (start_owes a)
    × (is_owed old e ≡ false → places b (whose e) + start_owes a + 1 ≤ owed_to old (whose e) + need e)
    × (is_owed old e ≡ true → places b (whose e) + start_owes a + 1 ≤ owed_to old (whose e))

need_some : (x : Ask) → 1 ≤ cond (is_request x) 6 1
need_some x = elim (is_request x) as (λ b. 1 ≤ cond b 6 1) [ true ↦ omega arith | false ↦ omega arith ]

need_any : (e : Event) → 1 ≤ need e
need_any (Asked s x) = need_some x
need_any (Opened s) = omega arith
need_any _ = omega arith

-- nothing that is owed is changed, and nothing was owed
rests : (old : World) (e : Event) (a : Answer) (b : Sessions) → start_owes a ≡ 0 → is_owed old e ≡ false
    → ((t : SessionId) → places b t ≡ places old.sessions t) → Moves old e a b
rests old e a b none not_owed same = (
  at_one none (λ t other. same t),
  (λ _. let here = same (whose e) in let some = need_any e in omega arith),
  (λ owed. absurd (true_false (sym owed ∙ not_owed))),
)

-- ---- sessions that are there

found_there : (a : Sessions) (s : SessionId) → is_none (session_of a s) ≡ false → (x : Session) × (session_of a s ≡ Some x)
found_there a s h = found (session_of a s) h
  where
    found : (o : Option Session) → is_none o ≡ false → (x : Session) × (o ≡ Some x)
    found None e = absurd (cc)
    found (Some x) e = (x, refl)

wait_there : (a : Sessions) (s : SessionId) (w : Wait) → wait_of a s ≡ Some w → (x : Session) × (session_of a s ≡ Some x) × (wait_owes x ≡ 1)
wait_there a s w h = found (session_of a s) h
  where
    found : (o : Option Session) → option_and_then (λ one. one.wait) o ≡ Some w → (x : Session) × (o ≡ Some x) × (wait_owes x ≡ 1)
    found None e = absurd (cc)
    found (Some x) e = (x, refl, ap (λ (v : Option Wait). cond (is_some v) 1 0) e)

-- a session that is there is changed
changed_there : (a : Sessions) (s : SessionId) (f : Session → Session) (x : Session) → session_of a s ≡ Some x
    → places (session_changed s f a) s ≡ 1 + wait_owes (f x)
changed_there a s f x is =
    places_there (session_changed s f a) s (f x)
    (session_of_changed s f a s ∙ ap (λ b. cond b (option_map f (session_of a s)) (session_of a s)) (same-self s) ∙ ap (option_map f) is)

-- ---- each step

-- a session that is there is not the handler of a key without a construction
pub other_key : (old : World) (s : SessionId) (k : ℕ) → map.get old.sessions.constructions k ≡ None → is_none (session_of old.sessions s) ≡ false
    → same_session s (Handler k) ≡ false
other_key old s k none there = decided (same_session s (Handler k)) refl
  where
    absent : s ≡ Handler k → session_of old.sessions s ≡ None
    absent e = ap (session_of old.sessions) e ∙ ap (option_and_then (λ (c : Construction). handler_in c.stage)) none

    decided : (b : Bool) → same_session s (Handler k) ≡ b → b ≡ false
    decided true is = absurd (true_false (sym (ap is_none (absent (same-true s (Handler k) is))) ∙ there))
    decided false is = refl

began : (old : World) (s : SessionId) (x : Ask) (k : ℕ) (subject : Subject) (authority : Authority) → is_request x ≡ true
    → map.get old.sessions.constructions k ≡ None → is_none (session_of old.sessions s) ≡ false
    → Moves old (Asked s x) (Start k subject) (session_changed s (with_wait (Some (new_wait k true))) (with_construction k authority old.sessions))
began old s x k subject authority asks none there =
    let f : Session → Session = with_wait (Some (new_wait k true)) in
    let issued : Sessions = with_construction k authority old.sessions in
    let apart = other_key old s k none there in
    let one = found_there issued s (there_issued k authority old.sessions s none there) in
    let left : places (session_changed s f issued) s ≡ 2 = changed_there issued s f one.0 one.1 in
    let two = found_there old.sessions s there in
    let was : places old.sessions s ≡ 1 + wait_owes two.0 = places_there old.sessions s two.0 two.1 in
    let six : need (Asked s x) ≡ 6 = ap (λ b. cond b 6 1) asks in (
      at_two k refl apart (ap (λ (o : Option Construction). option_map_or construction_owes o 0) none)
          (places_other s f issued (Handler k) apart ∙ places_issued k authority old.sessions (Handler k)
          ∙ ap (λ b. cond b 4 (places old.sessions (Handler k))) (same-self (Handler k)))
          (λ t other others. places_other s f issued t other ∙ places_issued k authority old.sessions t ∙ ap (λ b. cond b 4 (places old.sessions t)) others),
      (λ _. omega arith),
      (λ owed. absurd (true_false (sym owed))),
    )

joined : (old : World) (s : SessionId) (x : Ask) (k : ℕ) → is_request x ≡ true → is_none (session_of old.sessions s) ≡ false
    → Moves old (Asked s x) (Waiting k) (session_changed s (with_wait (Some (new_wait k false))) old.sessions)
joined old s x k asks there =
    let f : Session → Session = with_wait (Some (new_wait k false)) in
    let one = found_there old.sessions s there in
    let left : places (session_changed s f old.sessions) s ≡ 2 = changed_there old.sessions s f one.0 one.1 in
    let was : places old.sessions s ≡ 1 + wait_owes one.0 = places_there old.sessions s one.0 one.1 in
    let six : need (Asked s x) ≡ 6 = ap (λ b. cond b 6 1) asks in (
      at_one refl (λ t other. places_other s f old.sessions t other),
      (λ _. omega arith),
      (λ owed. absurd (true_false (sym owed))),
    )

told_no_start : (o : Outcome) → start_owes (told_as o) ≡ 0
told_no_start (Found k) = refl
told_no_start (Failed e) = refl

taken : (old : World) (s : SessionId) (wait : Wait) (o : Outcome) → wait_of old.sessions s ≡ Some wait → Moves old (Collect s) (told_as o) (collected s old).sessions
taken old s wait o is =
    let one = wait_there old.sessions s wait is in
    let was : places old.sessions s ≡ 2 = places_there old.sessions s one.0 one.1 ∙ ap (λ n. 1 + n) one.2 in
    let left : places (collected s old).sessions s ≡ 1 = changed_there old.sessions s (with_wait None) one.0 one.1 in
    let none = told_no_start o in (
      at_one none (λ t other. places_other s (with_wait None) old.sessions t other),
      (λ _. omega arith),
      (λ _. omega arith),
    )

-- what is owed to one construction or client is now this
replaced : (old : World) (e : Event) (a : Answer) (b : Sessions) (n : ℕ) → start_owes a ≡ 0
    → ((t : SessionId) → places b t ≡ cond (same_session (whose e) t) n (places old.sessions t)) → n + 1 ≤ places old.sessions (whose e) → Moves old e a b
replaced old e a b n none is less =
    let left : places b (whose e) ≡ n = is (whose e) ∙ ap (λ t. cond t n (places old.sessions (whose e))) (same-self (whose e)) in (
      at_one none (λ t other. is t ∙ ap (λ b. cond b n (places old.sessions t)) other),
      (λ _. omega arith),
      (λ _. omega arith),
    )

arrived : (old : World) (n : ℕ) → map.contains_key old.sessions.clients n ≡ false → Moves old (Opened (Client n)) done (with_client n old.sessions)
arrived old n fresh =
    let left : places (with_client n old.sessions) (Client n) ≡ 1 =
    places_came n old.sessions (Client n) ∙ ap (λ b. cond b 1 (places old.sessions (Client n))) (same-self (Client n)) in (
      at_one refl (λ t other. places_came n old.sessions t ∙ ap (λ b. cond b 1 (places old.sessions t)) other),
      (λ _. omega arith),
      (λ owed. absurd (true_false (sym owed))),
    )

running_owes : (st : Stage) → is_to_launch (Some st) ≡ false → 1 ≤ stage_owes st
running_owes Starting h = absurd (true_false h)
running_owes (Plain s) h = omega arith
running_owes Piped h = omega arith
running_owes Negating h = absurd (true_false h)

waiting_owes : (st : Stage) → is_to_launch (Some st) ≡ true → 2 ≤ stage_owes st
waiting_owes Starting h = omega arith
waiting_owes (Plain s) h = absurd (true_false (sym h))
waiting_owes Piped h = absurd (true_false (sym h))
waiting_owes Negating h = omega arith

-- a wait that may not be collected yet is not ready
pub ready_is : (w : World) (s : SessionId) (wait : Wait) → wait_of w.sessions s ≡ Some wait → ready_outcome w.sessions wait ≡ None → is_ready w s ≡ false
ready_is w s wait is none = ap (λ (o : Option Wait). is_some (option_and_then (ready_outcome w.sessions) o)) is ∙ ap is_some none

-- the answer to what is not owed, where the event is refused
abbrev pub NotOwed : World → Event → Answer → Type 0
NotOwed old e a = (x : Errno) → a ≡ Refused x → ((s : SessionId) → e ≡ Collect s → wait_of old.sessions s ≡ None) → is_owed old e ≡ false

-- every step changes only what is owed to the session of its event, and by a construction that starts
pub moves : (old new : World) (now : ℕ) (e : Event) (a : Answer) (b : Sessions) → InSessions old new now e a b → IdleFresh old → NotOwed old e a → Moves old e a b
moves old new now e a b (is_refused y error w free) idle not_owed = rests old y (Refused error) old.sessions refl (not_owed error refl free) (λ t. refl)
moves old new now e a b (waits_on s wait is ready) idle not_owed =
    rests old (Collect s) (Waiting wait.key) old.sessions refl (ready_is old s wait is ready) (λ t. refl)
moves old new now e a b (collects s wait outcome is ready) idle not_owed = taken old s wait outcome is
moves old new now e a b (comes n fresh) idle not_owed = arrived old n fresh
moves old new now e a b (goes n there) idle not_owed =
    let one = client_there old.sessions n there in
    let was : places old.sessions (Client n) ≡ 1 + wait_owes one.0 = places_there old.sessions (Client n) one.0 one.1 in
    replaced old (Gone (Client n)) done _ 0 refl (places_went n old.sessions) (omega arith)
moves old new now e a b (greeted n hello c thread process session user can) idle not_owed =
    rests old (Asked (Client n) (ask.Hello hello)) (Done (Rings thread process session user)) _ refl refl
    (places_kept (Client n) (with_context c) (λ x. refl) old.sessions)
moves old new now e a b (starts s typ description callout r k subject authority names can fresh drawn) idle not_owed =
    began old s (ask.Request typ description (Some callout) r) k subject authority refl (idle k fresh.unused) can.there
moves old new now e a b (waits_for s x k asks can apart) idle not_owed = joined old s x k asks can.there
moves old new now e a b (answered s x n plain) idle not_owed = rests old (Asked s x) (Done (Number n)) old.sessions refl refl (λ t. refl)
moves old new now e a b (told s x bytes w) idle not_owed = rests old (Asked s x) (Done (Bytes bytes)) old.sessions refl refl (λ t. refl)
moves old new now e a b (is_set s x setting n plain can) idle not_owed =
    rests old (Asked s x) (Done (Number n)) _ refl refl (places_kept s (with_setting setting) (λ y. refl) old.sessions)
moves old new now e a b (assumed s key can none) idle not_owed =
    rests old (Asked s (ask.Assume key)) done _ refl refl (places_kept s (with_assumed (serial_named key)) (λ y. refl) old.sessions)
moves old new now e a b (concluded s x asker k keys which is own) idle not_owed =
    rests old (Asked s x) done _ refl refl (λ t. places_announced now k keys (spent k old.sessions) t ∙ places_spent k old.sessions t)
moves old new now e a b (runs_plain k st is launches) idle not_owed =
    let there = stage_there old.sessions k st is in
    let some = waiting_owes st launches in
    replaced old (Launched k ran.Plain) done _ 1 refl (λ t. places_launched k (Plain new_session) old.sessions t there.0) (omega (arith, there.1))
moves old new now e a b (runs_piped k is) idle not_owed =
    let there = stage_there old.sessions k Starting is in
    replaced old (Launched k ran.Piped) done _ 3 refl (λ t. places_launched k Piped old.sessions t there.0) (omega (arith, there.1))
moves old new now e a b (follows k how payload is free) idle not_owed =
    let there = stage_there old.sessions k Piped is in
    replaced old (Ended k how payload) (Negate k) _ 2 refl (λ t. places_launched k Negating old.sessions t there.0) (omega (arith, there.1))
moves old new now e a b (not_run k st condition is launches) idle not_owed =
    let there = stage_there old.sessions k st is in
    let some = waiting_owes st launches in
    replaced old (Launched k ran.Failed) done _ 0 refl (places_ended now k condition old) (omega (arith, there.1))
moves old new now e a b (ends k how payload st condition is runs) idle not_owed =
    let there = stage_there old.sessions k st is in
    let some = running_owes st runs in
    replaced old (Ended k how payload) done _ 0 refl (places_ended now k condition old) (omega (arith, there.1))

-- ---- asks

-- a session that does not wait is owed its end alone
no_wait : (a : Sessions) (s : SessionId) → is_none (session_of a s) ≡ false → wait_of a s ≡ None → places a s ≡ 1
no_wait a s there free =
    let one = found_there a s there in
    let none : one.0.wait ≡ None = sym (ap (option_and_then (λ (x : Session). x.wait)) one.1) ∙ free in
    places_there a s one.0 one.1 ∙ ap (λ (v : Option Wait). 1 + cond (is_some v) 1 0) none

-- an ask changes what is owed to whoever asks by its wait alone
pub asked_places : (old new : World) (now : ℕ) (e : Event) (a : Answer) (b : Sessions) → InSessions old new now e a b → IdleFresh old → is_ask e ≡ true
    → places b (whose e) ≡ owed_to old (whose e) + wait_made a
asked_places old new now e a b (is_refused y error w free) idle asks = omega arith
asked_places old new now e a b (greeted n hello c thread process session user can) idle asks =
    let kept = places_kept (Client n) (with_context c) (λ x. refl) old.sessions (Client n) in omega arith
asked_places old new now e a b (starts s typ description callout r k subject authority names can fresh drawn) idle asks =
    let f : Session → Session = with_wait (Some (new_wait k true)) in
    let issued : Sessions = with_construction k authority old.sessions in
    let one = found_there issued s (there_issued k authority old.sessions s (idle k fresh.unused) can.there) in
    let left : places (session_changed s f issued) s ≡ 2 = changed_there issued s f one.0 one.1 in
    let was = no_wait old.sessions s can.there can.free in omega arith
asked_places old new now e a b (waits_for s x k is can apart) idle asks =
    let f : Session → Session = with_wait (Some (new_wait k false)) in
    let one = found_there old.sessions s can.there in
    let left : places (session_changed s f old.sessions) s ≡ 2 = changed_there old.sessions s f one.0 one.1 in
    let was = no_wait old.sessions s can.there can.free in omega arith
asked_places old new now e a b (answered s x n plain) idle asks = omega arith
asked_places old new now e a b (told s x bytes w) idle asks = omega arith
asked_places old new now e a b (is_set s x setting n plain can) idle asks =
    let kept = places_kept s (with_setting setting) (λ y. refl) old.sessions s in omega arith
asked_places old new now e a b (assumed s key can none) idle asks =
    let kept = places_kept s (with_assumed (serial_named key)) (λ y. refl) old.sessions s in omega arith
asked_places old new now e a b (concluded s x asker k keys which is own) idle asks =
    let kept = places_announced now k keys (spent k old.sessions) s ∙ places_spent k old.sessions s in omega arith
asked_places old new now e a b _ idle asks = absurd (true_false (sym asks))
