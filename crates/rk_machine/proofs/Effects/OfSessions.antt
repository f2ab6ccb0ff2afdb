-- What a step does to the sessions and the constructions.
use Rattle.rk_machine.proofs.Words.{◌≡◌, ℕ, ◌∙◌, true, false, refl, ap, sym, inl, inr, subst, List, nat_cmp, ℤ, ◌==◌, Option, Some, None, is_some, unwrap_or}
use Rattle.rk_machine.proofs.Words.{Context, Setting, Errno, SessionId, Client, Subject, Ask, Number, Bytes, Rings, IsFresh, Condition, Negative, Key}
use Rattle.rk_machine.proofs.Words.{session_changed, spent, with_construction, with_context, ready_outcome, with_client, without_client, with_wait}
use Rattle.rk_machine.proofs.Words.{with_setting, with_assumed, new_wait, Leads, Sessions, unspent, new_session, wait_of, stage_of, is_to_launch, Authority}
use Rattle.rk_machine.proofs.Words.{Stage, Starting, Plain, Piped, Negating, Outcome, Wait, done, Asker, asker_of, serial_named, assume_refusal, announced}
use Rattle.rk_machine.proofs.Words.{ended, Event, completes, is_request, names_in, told_as, World, Answer, Done, Start, Waiting, Refused, Negate, Opened, Asked}
use Rattle.rk_machine.proofs.Words.{Launched, Ended, Collect, Gone, How, and_left, Step}
use Rattle.std.specs.FinMap as map
use Rattle.rk_names.specs.declared.errors.KeyError.TheVariants as error
use Rattle.rk_message.specs.declared.ask.AskOf.TheVariants as ask
use Rattle.rk_machine.specs.declared.event.Ran.TheVariants as ran
use Rattle.rk_auth.specs.Changes.{launched}
use Rattle.rk_machine.proofs.Effects.KindsOfStep.{Effect, effect, CanAsk, refused, still, took, came, went, greets, begins, joins, links, unlinks, marks, tells}
use Rattle.rk_machine.proofs.Effects.KindsOfStep.{sets, adds, assumes, concludes, ran_plain, ran_piped, negates, failed, finished}
use Rattle.rk_machine.proofs.Effects.DrawnSerials.{is_drawn, drawn_now}
use Rattle.rk_machine.proofs.Effects.HelloChanges.{greeted_sessions}
use Rattle.rk_machine.proofs.Effects.HelloMakesRings.{greeted_as}

-- the ask completes nothing, and is no ASSUME
pub record IsPlain (x : Ask) : Type 0 where
  pub completes_none : (j : ℕ) → completes x j ≡ false
  pub not_assume : (key : ℤ) → ¬ (x ≡ ask.Assume key)

-- each step is one of these: an event, its answer, and the sessions that it leaves of the old world's
pub data InSessions (old new : World) (now : ℕ) : Event → Answer → Sessions → Type 0 where
  -- refused, and nothing changed
  is_refused : (e : Event) (error : Errno) → new ≡ old → ((s : SessionId) → e ≡ Collect s → wait_of old.sessions s ≡ None)
      → InSessions old new now e (Refused error) old.sessions
  -- a wait that may not be collected yet, and one that is collected
  waits_on : (s : SessionId) (wait : Wait) → wait_of old.sessions s ≡ Some wait → ready_outcome old.sessions wait ≡ None
      → InSessions old new now (Collect s) (Waiting wait.key) old.sessions
  collects : (s : SessionId) (wait : Wait) (outcome : Outcome) → wait_of old.sessions s ≡ Some wait → ready_outcome old.sessions wait ≡ Some outcome
      → InSessions old new now (Collect s) (told_as outcome) (session_changed s (with_wait None) old.sessions)
  -- a client comes, gets its context, and goes
  comes : (n : ℕ) → map.contains_key old.sessions.clients n ≡ false → InSessions old new now (Opened (Client n)) done (with_client n old.sessions)
  greeted : (n : ℕ) (hello : _) (c : Context) (thread process session user : ℕ) → CanAsk old (Client n)
      → InSessions old new now (Asked (Client n) (ask.Hello hello)) (Done (Rings thread process session user))
      (session_changed (Client n) (with_context c) old.sessions)
  goes : (n : ℕ) → map.contains_key old.sessions.clients n ≡ true → InSessions old new now (Gone (Client n)) done (without_client n old.sessions)
  -- a construction starts, and a session waits for one
  starts : (s : SessionId) (typ description callout : List ℕ) (r : ℤ) (k : ℕ) (subject : Subject) (authority : Authority)
      → names_in subject ≡ (typ, (description, callout)) → CanAsk old s → IsFresh old.serials k → is_drawn new k ≡ true
      → InSessions old new now (Asked s (ask.Request typ description (Some callout) r)) (Start k subject)
      (session_changed s (with_wait (Some (new_wait k true))) (with_construction k authority old.sessions))
  waits_for : (s : SessionId) (x : Ask) (k : ℕ) → is_request x ≡ true → CanAsk old s → ¬ (Leads old.sessions k s)
      → InSessions old new now (Asked s x) (Waiting k) (session_changed s (with_wait (Some (new_wait k false))) old.sessions)
  -- an ask is answered, and leaves the sessions; bytes leave the whole world
  answered : (s : SessionId) (x : Ask) (n : ℕ) → IsPlain x → InSessions old new now (Asked s x) (Done (Number n)) old.sessions
  told : (s : SessionId) (x : Ask) (bytes : List ℕ) → new ≡ old → InSessions old new now (Asked s x) (Done (Bytes bytes)) old.sessions
  -- a session gets a setting, or assumes an authority
  is_set : (s : SessionId) (x : Ask) (setting : Setting) (n : ℕ) → IsPlain x → CanAsk old s
      → InSessions old new now (Asked s x) (Done (Number n)) (session_changed s (with_setting setting) old.sessions)
  assumed : (s : SessionId) (key : ℤ) → CanAsk old s → assume_refusal old s key ≡ None
      → InSessions old new now (Asked s (ask.Assume key)) done (session_changed s (with_assumed (serial_named key)) old.sessions)
  -- a key is completed
  concluded : (s : SessionId) (x : Ask) (asker : Asker) (k : ℕ) (keys : map.FinMap nat_cmp Key) → ((j : ℕ) → completes x j ≡ (k == j))
      → asker_of old s ≡ Some asker → asker.assumed ≡ Some k → InSessions old new now (Asked s x) done (announced now k keys (spent k old.sessions))
  -- a handler runs, plain or piped; another one follows a piped one
  runs_plain : (k : ℕ) (st : Stage) → stage_of old.sessions k ≡ Some st → is_to_launch (Some st) ≡ true
      → InSessions old new now (Launched k ran.Plain) done (launched k (Plain new_session) old.sessions)
  runs_piped : (k : ℕ) → stage_of old.sessions k ≡ Some Starting → InSessions old new now (Launched k ran.Piped) done (launched k Piped old.sessions)
  follows : (k : ℕ) (how : How) (payload : Option (List ℕ)) → stage_of old.sessions k ≡ Some Piped → is_some (unspent old.sessions k) ≡ true
      → InSessions old new now (Ended k how payload) (Negate k) (launched k Negating old.sessions)
  -- a handler could not be started, or has ended
  not_run : (k : ℕ) (st : Stage) (condition : Condition) → stage_of old.sessions k ≡ Some st → is_to_launch (Some st) ≡ true
      → InSessions old new now (Launched k ran.Failed) done (ended now k condition old).sessions
  ends : (k : ℕ) (how : How) (payload : Option (List ℕ)) (st : Stage) (condition : Condition) → stage_of old.sessions k ≡ Some st
      → is_to_launch (Some st) ≡ false → InSessions old new now (Ended k how payload) done (ended now k condition old).sessions

module _ (old : World) (now : ℕ) (e : Event) (a : Answer) (new : World) where
  as_step : (y : Event) (z : Answer) (mid : World) → e ≡ y → a ≡ z → new ≡ mid → InSessions old new now y z mid.sessions
      → InSessions old new now e a new.sessions
  as_step y z mid ev ra w h =
      subst (λ (x : Event). InSessions old new now x a new.sessions) (sym ev) (subst (λ (x : Answer). InSessions old new now y x new.sessions) (sym ra)
      (subst (λ (v : World). InSessions old new now y z v.sessions) (sym w) h))

  -- what each kind of step does to the sessions
  pub in_sessions : Effect old now e a new → InSessions old new now e a new.sessions
  in_sessions (refused error ra w free) = as_step _ _ _ refl ra w (is_refused e error w free)
  in_sessions (still s wait ev is ready ra w) = as_step _ _ _ ev ra w (waits_on s wait is ready)
  in_sessions (took s wait outcome ev is ready ra w) = as_step _ _ _ ev ra w (collects s wait outcome is ready)
  in_sessions (came n ev fresh ra w) = as_step _ _ _ ev ra w (comes n fresh)
  in_sessions (went n ev there ra w) = as_step _ _ _ ev ra w (goes n there)
  in_sessions (greets n hello ev can none joined h) =
      let c : Context = greeted_as hello h.0 h.1 h.2 h.3 in
      let reply : Answer = Done (Rings (unwrap_or h.0 0) (unwrap_or h.1 0) h.2 h.3) in
      let to : Sessions → Type 0 =
      λ a. InSessions old new now (Asked (Client n) (ask.Hello hello)) reply (session_changed (Client n) (with_context c) a) in
      as_step (Asked (Client n) (ask.Hello hello)) reply _ ev h.6.0 h.6.1
      (subst to (sym (greeted_sessions hello old h.4 h.0 h.1 h.2 h.3 h.5)) (greeted n hello c (unwrap_or h.0 0) (unwrap_or h.1 0) h.2 h.3 can))
  in_sessions (begins s asker typ description callout r ring k ev can is depth fresh ra w) =
      as_step _ _ _ ev ra w (starts s typ description callout r k _ _ refl can fresh (ap (λ (v : World). is_drawn v k) w ∙ drawn_now k old))
  in_sessions (joins s x ring k ev asks can building apart ra w) = as_step _ _ _ ev ra w (waits_for s x k asks can apart)
  in_sessions (links s x ring k n ev none not_assume ra w) =
      as_step _ _ _ ev ra w (answered s x n (record { completes_none = none; not_assume = not_assume }))
  in_sessions (unlinks s x ring k ev none not_assume ra (inl w)) =
      as_step _ _ _ ev ra w (answered s x 0 (record { completes_none = none; not_assume = not_assume }))
  in_sessions (unlinks s x ring k ev none not_assume ra (inr w)) =
      as_step _ _ _ ev ra w (answered s x 0 (record { completes_none = none; not_assume = not_assume }))
  in_sessions (marks s x k f ev none not_assume mild ra w) =
      as_step _ _ _ ev ra w (answered s x 0 (record { completes_none = none; not_assume = not_assume }))
  in_sessions (tells s x bytes ev ra w) = as_step _ _ _ ev ra w (told s x bytes w)
  in_sessions (sets s x setting n ev none not_assume can ra w) =
      as_step _ _ _ ev ra w (is_set s x setting n (record { completes_none = none; not_assume = not_assume }) can)
  in_sessions (adds s asker typ description payload r ring k ev fresh ra w) =
      as_step _ _ _ ev ra w (answered s (ask.Add typ description payload r) k (record { completes_none = λ j. refl; not_assume = λ key is. cc }))
  in_sessions (assumes s key ev can none ra w) = as_step _ _ _ ev ra w (assumed s key can none)
  in_sessions (concludes s x asker ring k condition end ev which can is own final ra w) = as_step _ _ _ ev ra w (concluded s x asker k _ which is own)
  in_sessions (ran_plain k st ev is launches ra w) = as_step _ _ _ ev ra w (runs_plain k st is launches)
  in_sessions (ran_piped k ev is ra w) = as_step _ _ _ ev ra w (runs_piped k is)
  in_sessions (negates k how payload ev is fails ra w) = as_step _ _ _ ev ra w (follows k how payload is (and_left _ _ fails))
  in_sessions (failed k st ev is launches ra w) = as_step _ _ _ ev ra w (not_run k st (Negative error.NoKey) is launches)
  in_sessions (finished k how payload st condition ev is running final ra w) = as_step _ _ _ ev ra w (ends k how payload st condition is running)

  -- the same, of a step
  pub step_in : Step old now e a new → InSessions old new now e a new.sessions
  step_in step = in_sessions (effect old now e a new step)
