-- What a step leaves of the waits of others, and who of them may collect only now.
use Rattle.rk_machine.proofs.Words.{◌≡◌, ℕ, ◌∙◌, ◌⊎◌, ◌&&◌, Bool, true, false, cond, refl, ap, sym, inl, inr, option_map_or, nat_cmp, Option, Some, None}
use Rattle.rk_machine.proofs.Words.{nat_eq, is_some, option_map, option_and_then, eqb-true, eq-eqb, SessionId, Client, Handler, Condition, Key, spent, all_told}
use Rattle.rk_machine.proofs.Words.{with_context, ready_outcome, new_wait, told_wait, Sessions, unspent, new_session, wait_of, Construction, Plain, Piped}
use Rattle.rk_machine.proofs.Words.{Negating, Outcome, Wait, announced, outcome_of, sessions_ended, keys_ended, ended, Event, is_done, same_session}
use Rattle.rk_machine.proofs.Words.{is_followed, whose, is_ready, awaited, World, Answer, Start, Asked, Launched, Ended, none_is, Step}
use Rattle.std.specs.FinMap as map
use Rattle.rk_machine.proofs.Effects.WaitsAfter.{wait_kept, wait_collected, wait_begun, wait_told, wait_spent, wait_launched, wait_removed, wait_issued}
use Rattle.rk_machine.proofs.Effects.WaitsAfter.{wait_came, wait_went}
use Rattle.rk_machine.proofs.Effects.OfOneConstruction.{Goods, concluder}
use Rattle.rk_machine.proofs.Effects.WaitsAreTheWorlds.{IdleFresh, there_issued}
use Rattle.rk_machine.proofs.Effects.AuthoritiesAfter.{unspent_concluded, unspent_ended}
use Rattle.rk_machine.proofs.Effects.StagesByStep.{Kind, to_start, to_follow, kind_in, kind_of, kind_after, launched_kind, kinds}
use Rattle.rk_machine.proofs.Effects.KindsOfStep.{effect}
use Rattle.rk_machine.proofs.Effects.OfSessions.{InSessions, step_in, collects, comes, goes, greeted, starts, waits_for, is_set, assumed, concluded, runs_plain}
use Rattle.rk_machine.proofs.Effects.OfSessions.{runs_piped, follows, not_run, ends}

-- ---- the wait of another one

-- these sessions, which a step has left, have it as it was; or it was told the outcome of k, if it is on k. Then the step is about the handler of k,
-- whose authority is spent
pub data OthersIn (old : World) (e : Event) (b : Sessions) (s : SessionId) : Type 0 where
  left : wait_of b s ≡ wait_of old.sessions s → OthersIn old e b s
  told_of : (k : ℕ) (o : Outcome) → whose e ≡ Handler k → unspent b k ≡ None → wait_of b s ≡ option_map (told_wait k o) (wait_of old.sessions s)
      → OthersIn old e b s

-- the same, of a world
abbrev pub Others : World → Event → World → SessionId → Type 0
Others old e new s = OthersIn old e new.sessions s

gone_at : (k : ℕ) {A : Type 0} (o : Option A) → cond (nat_eq k k) None o ≡ None
gone_at k o = ap (λ t. cond t None o) (eq-eqb k k refl)

module _ (old : World) (e : Event) (s : SessionId) where
  -- a change of another one
  but_one : (b : Sessions) (t : SessionId) (o : Option Wait) → same_session t s ≡ false → wait_of b s ≡ cond (same_session t s) o (wait_of old.sessions s)
      → OthersIn old e b s
  but_one b t o apart h = left (h ∙ ap (λ x. cond x o (wait_of old.sessions s)) apart)

  -- every wait on k gets the outcome, if there is such a key
  announces : (b : Sessions) (now k : ℕ) (keys : map.FinMap nat_cmp Key) (a : Sessions) → whose e ≡ Handler k → unspent b k ≡ None
      → wait_of b s ≡ wait_of (announced now k keys a) s → wait_of a s ≡ wait_of old.sessions s → OthersIn old e b s
  announces b now k keys a by none is same = told_or_not (map.get keys k) is
    where
      told_or_not : (o : Option Key) → wait_of b s ≡ wait_of (option_map_or (λ key. all_told k (outcome_of k key now) a) o a) s → OthersIn old e b s
      told_or_not None is = left (is ∙ same)
      told_or_not (Some key) is =
          told_of k (outcome_of k key now) by none
          (is ∙ wait_told k (outcome_of k key now) a s ∙ ap (option_map (told_wait k (outcome_of k key now))) same)

  -- the end of the handler of k
  ends_one : (now k : ℕ) (condition : Condition) → whose e ≡ Handler k → same_session (Handler k) s ≡ false → OthersIn old e (ended now k condition old).sessions s
  ends_one now k condition by apart = spent_or_not (is_some (unspent old.sessions k)) removed
    where
      b : Sessions
      b = (ended now k condition old).sessions

      removed : wait_of b s ≡ wait_of (sessions_ended now k condition old) s
      removed =
          wait_removed k (sessions_ended now k condition old) s ∙ ap (λ b. cond b None (wait_of (sessions_ended now k condition old) s)) apart

      spent_or_not : (t : Bool) → wait_of b s ≡ wait_of (cond t (announced now k (keys_ended now k condition old) (spent k old.sessions)) old.sessions) s
          → OthersIn old e b s
      spent_or_not true is =
          announces b now k (keys_ended now k condition old) (spent k old.sessions) by (unspent_ended now k condition old k ∙ gone_at k _) is
          (wait_spent k old.sessions s)
      spent_or_not false is = left is

by_case : (old new : World) (now : ℕ) (e : Event) (a : Answer) (b : Sessions) → InSessions old new now e a b → IdleFresh old → Goods old.sessions
    → (s : SessionId) → same_session (whose e) s ≡ false → OthersIn old e b s
by_case old new now e a b (collects t wait outcome is ready) idle good s apart = but_one old _ s _ t None apart (wait_collected t old.sessions s)
by_case old new now e a b (comes n fresh) idle good s apart = left (wait_came n old.sessions s (none_is (map.get old.sessions.clients n) fresh))
by_case old new now e a b (goes n there) idle good s apart = but_one old _ s _ (Client n) None apart (wait_went n old.sessions s)
by_case old new now e a b (greeted n hello c thread process session user can) idle good s apart =
    left (wait_kept (Client n) (with_context c) (λ x. refl) old.sessions s)
by_case old new now e a b (starts t typ description callout r k subject authority names can fresh drawn) idle good s apart =
    but_one old _ s _ t (Some (new_wait k true)) apart
    (wait_begun t (new_wait k true) _ s (there_issued k authority old.sessions t (idle k fresh.unused) can.there)
    ∙ ap (cond (same_session t s) (Some (new_wait k true))) (wait_issued k authority old.sessions s (idle k fresh.unused)))
by_case old new now e a b (waits_for t x k asks can free) idle good s apart =
    but_one old _ s _ t (Some (new_wait k false)) apart (wait_begun t (new_wait k false) old.sessions s can.there)
by_case old new now e a b (is_set t x setting n plain can) idle good s apart = left (wait_kept t _ (λ x. refl) old.sessions s)
by_case old new now e a b (assumed t key can none) idle good s apart = left (wait_kept t _ (λ x. refl) old.sessions s)
by_case old new now e a b (concluded t x asker k keys which is own) idle good s apart =
    let by = concluder old t asker k is own in
    announces old _ s _ now k keys (spent k old.sessions) (by.2 ∙ ap Handler (sym (good by.0 by.1 k by.3 by.4).0))
    (unspent_concluded now k keys old.sessions k ∙ gone_at k _) refl (wait_spent k old.sessions s)
by_case old new now e a b (runs_plain k st is launches) idle good s apart =
    but_one old _ s _ (Handler k) None apart (wait_launched k (Plain new_session) refl old.sessions s)
by_case old new now e a b (runs_piped k is) idle good s apart = but_one old _ s _ (Handler k) None apart (wait_launched k Piped refl old.sessions s)
by_case old new now e a b (follows k how payload is free) idle good s apart =
    but_one old _ s _ (Handler k) None apart (wait_launched k Negating refl old.sessions s)
by_case old new now e a b (not_run k st condition is launches) idle good s apart = ends_one old _ s now k condition refl apart
by_case old new now e a b (ends k how payload st condition is running) idle good s apart = ends_one old _ s now k condition refl apart
by_case old new now e a b _ idle good s apart = left refl

-- a step leaves the waits of other sessions, or gives them the outcome of their key
pub others : (old : World) (now : ℕ) (e : Event) (a : Answer) (new : World) → Step old now e a new → IdleFresh old → Goods old.sessions → (s : SessionId)
    → same_session (whose e) s ≡ false → Others old e new s
others old now e a new step idle good s apart = by_case old new now e a new.sessions (step_in old now e a new step) idle good s apart

told_key : (k : ℕ) (o : Outcome) (x : Option Wait) → option_map (λ (v : Wait). v.key) (option_map (told_wait k o) x) ≡ option_map (λ (v : Wait). v.key) x
told_key k o None = refl
told_key k o (Some v) = refl

-- another one still waits on its key
pub still_awaited : (old : World) (e : Event) (new : World) (s : SessionId) → Others old e new s → awaited new s ≡ awaited old s
still_awaited old e new s (left same) = ap (option_map (λ (v : Wait). v.key)) same
still_awaited old e new s (told_of k o by none is) = ap (option_map (λ (v : Wait). v.key)) is ∙ told_key k o (wait_of old.sessions s)

-- ---- constructions that end

there_by_kind : (w : World) (q : ℕ) → is_some (kind_of w.sessions q) ≡ map.contains_key w.sessions.constructions q
there_by_kind w q = found (map.get w.sessions.constructions q)
  where
    found : (o : Option Construction) → is_some (kind_in o) ≡ is_some o
    found None = refl
    found (Some c) = refl

-- a construction that a step ends is that of the handler which it is about
over : (q : ℕ) (e : Event) (a : Answer) (o : Option Kind) → is_some o ≡ true → is_some (kind_after q e a o) ≡ false → whose e ≡ Handler q
over q (Asked s x) (Start k subject) o was is = absurd (by_test (nat_eq k q) is)
  where
    by_test : (b : Bool) → is_some (cond b (Some to_start) o) ≡ false → ⊥
    by_test true h = cc
    by_test false h = cc
over q (Launched k r) a o was is = by_test (is_done a) (nat_eq k q) refl is
  where
    by_test : (d b : Bool) → nat_eq k q ≡ b → is_some (cond (d && b) (launched_kind r) o) ≡ false → Handler k ≡ Handler q
    by_test true true same h = ap Handler (eqb-true k q same)
    by_test true false same h = absurd (cc)
    by_test false b same h = absurd (cc)
over q (Ended k how payload) a o was is = by_test (is_done a) (is_followed a) (nat_eq k q) refl is
  where
    by_test : (d f b : Bool) → nat_eq k q ≡ b → is_some (cond (d && b) None (cond (f && b) (Some to_follow) o)) ≡ false → Handler k ≡ Handler q
    by_test d f true same h = ap Handler (eqb-true k q same)
    by_test true true false same h = absurd (cc)
    by_test true false false same h = absurd (cc)
    by_test false true false same h = absurd (cc)
    by_test false false false same h = absurd (cc)
over q _ a o was is = absurd (cc)

ended_by : (old : World) (now : ℕ) (e : Event) (a : Answer) (new : World) → Step old now e a new → (q : ℕ)
    → map.contains_key old.sessions.constructions q ≡ true → map.contains_key new.sessions.constructions q ≡ false → whose e ≡ Handler q
ended_by old now e a new step q was is =
    over q e a (kind_of old.sessions q) (there_by_kind old q ∙ was)
    (ap is_some (sym (kinds old now e a new (effect old now e a new step) q)) ∙ there_by_kind new q ∙ is)

no_authority : (w : World) (q : ℕ) → map.contains_key w.sessions.constructions q ≡ false → unspent w.sessions q ≡ None
no_authority w q h = found (map.get w.sessions.constructions q) h
  where
    found : (o : Option Construction) → is_some o ≡ false → option_and_then (λ c. c.authority) o ≡ None
    found None e = refl
    found (Some c) e = absurd (cc)

-- ---- who may collect only now

-- the step is about the handler of the key on which it waits, whose authority is spent
abbrev pub IsWoken : World → Event → World → SessionId → Type 0
IsWoken old e new s = (v : Wait) × (wait_of old.sessions s ≡ Some v) × (whose e ≡ Handler v.key) × (unspent new.sessions v.key ≡ None)

module _ (old : World) (now : ℕ) (e : Event) (a : Answer) (new : World) (step : Step old now e a new) (s : SessionId) where
  -- a wait that has the same outcome
  same_outcome : (v u : Wait) → wait_of old.sessions s ≡ Some v → wait_of new.sessions s ≡ Some u → u.key ≡ v.key → u.starter ≡ v.starter
      → u.outcome ≡ v.outcome → is_ready new s ≡ true → (is_ready old s ≡ true) ⊎ IsWoken old e new s
  same_outcome v u was is key starter outcome ready =
      by_tests (map.contains_key old.sessions.constructions v.key) (map.contains_key new.sessions.constructions v.key) v.starter refl refl refl
    where
      before : (b c : Bool) → map.contains_key old.sessions.constructions v.key ≡ b → v.starter ≡ c → is_ready old s ≡ is_some (cond (c && b) None v.outcome)
      before b c there st =
          ap (λ (o : Option Wait). is_some (option_and_then (ready_outcome old.sessions) o)) was ∙ (λ i. is_some (cond (st i && there i) None v.outcome))

      after : (b c : Bool) → map.contains_key new.sessions.constructions v.key ≡ b → v.starter ≡ c → is_some (cond (c && b) None v.outcome) ≡ true
      after b c there st =
          sym (ap (λ (o : Option Wait). is_some (option_and_then (ready_outcome new.sessions) o)) is
          ∙ (λ i. is_some (cond (starter i && map.contains_key new.sessions.constructions (key i)) None (outcome i)))
          ∙ (λ i. is_some (cond (st i && there i) None v.outcome))) ∙ ready

      by_tests : (b d c : Bool) → map.contains_key old.sessions.constructions v.key ≡ b → map.contains_key new.sessions.constructions v.key ≡ d
          → v.starter ≡ c → (is_ready old s ≡ true) ⊎ IsWoken old e new s
      by_tests true false c was_there is_there st =
          inr (v, was, ended_by old now e a new step v.key was_there is_there, no_authority new v.key is_there)
      by_tests true true c was_there is_there st = inl (before true c was_there st ∙ after true c is_there st)
      by_tests false false c was_there is_there st = inl (before false c was_there st ∙ after false c is_there st)
      by_tests false true true was_there is_there st = absurd (let h = after true true is_there st in cc)
      by_tests false true false was_there is_there st = inl (before false false was_there st ∙ after true false is_there st)

  not_waiting : (w : World) → wait_of w.sessions s ≡ None → is_ready w s ≡ false
  not_waiting w none = ap (λ (o : Option Wait). is_some (option_and_then (ready_outcome w.sessions) o)) none

  -- another session that may collect after a step could do so before, or the step is about the handler of its key
  pub woken : Others old e new s → is_ready new s ≡ true → (is_ready old s ≡ true) ⊎ IsWoken old e new s
  woken (left same) ready = by_wait (wait_of old.sessions s) refl
    where
      by_wait : (o : Option Wait) → wait_of old.sessions s ≡ o → (is_ready old s ≡ true) ⊎ IsWoken old e new s
      by_wait None was = absurd (let h = not_waiting new (same ∙ was) in cc)
      by_wait (Some v) was = same_outcome v v was (same ∙ was) refl refl refl ready
  woken (told_of k o by none is) ready = by_wait (wait_of old.sessions s) refl
    where
      by_wait : (x : Option Wait) → wait_of old.sessions s ≡ x → (is_ready old s ≡ true) ⊎ IsWoken old e new s
      by_wait None was = absurd (let h = not_waiting new (is ∙ ap (option_map (told_wait k o)) was) in cc)
      by_wait (Some v) was = by_test (nat_eq v.key k) refl
        where
          by_test : (b : Bool) → nat_eq v.key k ≡ b → (is_ready old s ≡ true) ⊎ IsWoken old e new s
          by_test true same =
              let key : v.key ≡ k = eqb-true v.key k same in
              inr (v, was, by ∙ ap Handler (sym key), ap (unspent new.sessions) key ∙ none)
          by_test false other =
              same_outcome v (told_wait k o v) was (is ∙ ap (option_map (told_wait k o)) was) refl refl
              (ap (λ b. cond b (Some o) v.outcome) other) ready
