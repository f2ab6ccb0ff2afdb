-- A step tells no wait its outcome, or every wait on one key the same.
use Rattle.rk_machine.proofs.Words.{◌≡◌, ℕ, ◌∙◌, ◌⊎◌, Bool, true, false, cond, refl, ap, sym, inl, inr, subst, option_map_or, nat_cmp, Option, Some, None}
use Rattle.rk_machine.proofs.Words.{nat_eq, is_some, option_map, option_and_then, eqb-true, eq-eqb, SessionId, Client, Handler, changed_at, is_past, concluded}
use Rattle.rk_machine.proofs.Words.{new_key, Condition, Building, Positive, Negative, Key, spent, without_construction, with_construction, all_told}
use Rattle.rk_machine.proofs.Words.{with_context, new_wait, told_wait, Sessions, unspent, new_session, wait_of, Authority, Construction, Plain, Piped, Negating}
use Rattle.rk_machine.proofs.Words.{Outcome, Failed, Wait, announced, outcome_of, ended, completed, outcome_by, expiry_after, Event, same_session, IsOutcome}
use Rattle.rk_machine.proofs.Words.{unlinked_in, cleared_in, linked_in, told_as, World, tidied, Answer, get_changed_at, of_choice, some_same, was_some, none_is}
use Rattle.std.specs.FinMap as map
use Rattle.rk_names.specs.declared.errors.KeyError.TheVariants as error
use Rattle.rk_machine.proofs.Effects.KindsOfStep.{Effect, is_final, authority_for, refused, still, took, came, went, greets, begins, joins, links, unlinks}
use Rattle.rk_machine.proofs.Effects.KindsOfStep.{marks, tells, sets, adds, assumes, concludes, ran_plain, ran_piped, negates, failed, finished}
use Rattle.rk_machine.proofs.Effects.HelloChanges.{greeted_sessions, greeted_keys}
use Rattle.rk_machine.proofs.Effects.DrawnSerials.{is_drawn}
use Rattle.rk_machine.proofs.Effects.WaitsAfter.{wait_kept, wait_collected, wait_begun, wait_told, wait_spent, wait_launched, wait_removed, wait_issued}
use Rattle.rk_machine.proofs.Effects.WaitsAfter.{wait_came, wait_went}
use Rattle.rk_machine.proofs.Effects.StagesAfter.{shape_of, Shape, shape}
use Rattle.rk_machine.proofs.Effects.OfOneConstruction.{Goods, concluder, by_key}
use Rattle.rk_machine.proofs.Effects.WaitsAreTheWorlds.{IdleFresh, there_issued}
use Rattle.rk_machine.proofs.Effects.AuthoritiesAfter.{is_unspent, unspent_changed, unspent_launched, unspent_concluded, unspent_ended, unspent_issued}
use Rattle.rk_machine.proofs.Effects.BuildingAfter.{built_at, is_built, key_there, built_tidied, built_put, built_marked, built_concluded}

-- ---- what a step may do

-- a key that gets no outcome stays as it is, or is new
pub data Still (old new : World) (k : ℕ) : Type 0 where
  stays : is_built new k ≡ is_built old k → is_unspent new k ≡ is_unspent old k → Still old new k
  is_new : is_drawn old k ≡ false → (is_unspent new k ≡ true → is_built new k ≡ true) → Still old new k

-- no outcome of it can be known yet
abbrev pub IsOpen : World → ℕ → Type 0
IsOpen w k = (is_drawn w k ≡ false) ⊎ (is_built w k ≡ true)

-- each wait was there, or is new and on an open key
abbrev pub WaitsStay : World → World → Type 0
WaitsStay old new = (s : SessionId) (v : Wait) → wait_of new.sessions s ≡ Some v → (wait_of old.sessions s ≡ Some v) ⊎ ((v.outcome ≡ None) × IsOpen old v.key)

-- each wait was there, and gets the outcome if it is on k
abbrev pub WaitsTold : ℕ → Outcome → World → World → Type 0
WaitsTold k o old new = (s : SessionId) (v : Wait) → wait_of new.sessions s ≡ Some v → option_map (told_wait k o) (wait_of old.sessions s) ≡ Some v

-- whether a step gives an outcome: to nobody, or to all who wait for one key
pub data Telling (old new : World) : Type 0 where
  tells_none : ((k : ℕ) → Still old new k) → WaitsStay old new → Telling old new
  tells_all : (k : ℕ) (o : Outcome) → IsOutcome k (told_as o) → is_unspent old k ≡ true → is_unspent new k ≡ false → is_built new k ≡ false
      → ((j : ℕ) → nat_eq k j ≡ false → Still old new j) → WaitsTold k o old new → Telling old new

-- an unspent authority is that of a key under construction
abbrev pub Builds : World → Type 0
Builds w = (k : ℕ) → is_unspent w k ≡ true → is_built w k ≡ true

-- ---- the parts

module _ (old new : World) where
  same_waits : ((s : SessionId) → wait_of new.sessions s ≡ wait_of old.sessions s) → WaitsStay old new
  same_waits h s v is = inl (sym (h s) ∙ is)

  fewer_waits : (f : SessionId → Bool) → ((s : SessionId) → wait_of new.sessions s ≡ cond (f s) None (wait_of old.sessions s)) → WaitsStay old new
  fewer_waits f h s v is = inl (was_some (f s) (wait_of old.sessions s) v (sym (h s) ∙ is))

  one_more : (k : ℕ) (starter : Bool) (b : Bool) (o : Option Wait) (v : Wait) → IsOpen old k → cond b (Some (new_wait k starter)) o ≡ Some v
      → (o ≡ Some v) ⊎ ((v.outcome ≡ None) × IsOpen old v.key)
  one_more k starter true o v free h = inr (subst (λ (x : Wait). (x.outcome ≡ None) × IsOpen old x.key) (some_same h) (refl, free))
  one_more k starter false o v free h = inl h

  more_waits : (t : SessionId) (k : ℕ) (starter : Bool) → IsOpen old k
      → ((s : SessionId) → wait_of new.sessions s ≡ cond (same_session t s) (Some (new_wait k starter)) (wait_of old.sessions s)) → WaitsStay old new
  more_waits t k starter free h s v is = one_more k starter (same_session t s) (wait_of old.sessions s) v free (sym (h s) ∙ is)

  -- where the new world is known
  module _ (mid : World) (w : new ≡ mid) where
    wait_at : (s : SessionId) (o : Option Wait) → wait_of mid.sessions s ≡ o → wait_of new.sessions s ≡ o
    wait_at s o h = ap (λ (v : World). wait_of v.sessions s) w ∙ h

    built_as : (k : ℕ) (b : Bool) → is_built mid k ≡ b → is_built new k ≡ b
    built_as k b h = ap (λ (v : World). is_built v k) w ∙ h

    unspent_as : (k : ℕ) (b : Bool) → is_unspent mid k ≡ b → is_unspent new k ≡ b
    unspent_as k b h = ap (λ (v : World). is_unspent v k) w ∙ h

    still_at : (k : ℕ) → is_built mid k ≡ is_built old k → is_unspent mid k ≡ is_unspent old k → Still old new k
    still_at k b u = stays (built_as k _ b) (unspent_as k _ u)

    -- keys and authorities are left
    quiet : ((k : ℕ) → is_built mid k ≡ is_built old k) → ((k : ℕ) → is_unspent mid k ≡ is_unspent old k) → WaitsStay old new → Telling old new
    quiet b u waits = tells_none (λ k. still_at k (b k) (u k)) waits

-- an authority is unspent where the shape of its construction says so
pub unspent_by : (w : World) (k : ℕ) (x : Shape) → shape_of w.sessions k ≡ Some x → x.unspent ≡ true → is_unspent w k ≡ true
unspent_by w k x is u = found (map.get w.sessions.constructions k) is
  where
    found : (o : Option Construction) → option_map shape o ≡ Some x → is_some (option_and_then (λ c. c.authority) o) ≡ true
    found None e = absurd (cc)
    found (Some c) e = ap (λ (y : Shape). y.unspent) (some_same e) ∙ u

not_there : (w : World) (k : ℕ) → IdleFresh w → is_drawn w k ≡ false → is_unspent w k ≡ true → ⊥
not_there w k idle fresh u = no_authority (map.get w.sessions.constructions k) (idle k fresh) u
  where
    no_authority : (o : Option Construction) → o ≡ None → is_some (option_and_then (λ c. c.authority) o) ≡ true → ⊥
    no_authority None e h = cc
    no_authority (Some c) e h = cc

-- ---- what an outcome is

by_condition : (k : ℕ) (condition : Condition) (expired : Bool) → IsOutcome k (told_as (outcome_by condition expired k))
by_condition k Building true = inr (error.Expired, refl)
by_condition k Building false = inl refl
by_condition k (Positive payload) true = inr (error.Expired, refl)
by_condition k (Positive payload) false = inl refl
by_condition k (Negative e) expired = inr (e, refl)

is_outcome : (k : ℕ) (key : Key) (now : ℕ) → IsOutcome k (told_as (outcome_of k key now))
is_outcome k key now = by_revoked key.revoked
  where
    by_revoked : (b : Bool) → IsOutcome k (told_as (cond b (Failed error.Revoked) (outcome_by key.condition (is_past key.expiry now) k)))
    by_revoked true = inr (error.Revoked, refl)
    by_revoked false = by_condition k key.condition (is_past key.expiry now)

-- ---- completion and ending

-- the keys with k concluded
abbrev keys_then : ℕ → Condition → Option ℕ → World → map.FinMap nat_cmp Key
keys_then k condition end w = changed_at k (concluded condition end) w.keys

abbrev told_now : ℕ → ℕ → Condition → Option ℕ → Key → Outcome
told_now now k condition end key = outcome_of k (concluded condition end key) now

module _ (now k : ℕ) (condition : Condition) (end : Option ℕ) (w : World) (key : Key) (there : map.get w.keys k ≡ Some key) where
  announces : (a : Sessions) → announced now k (keys_then k condition end w) a ≡ all_told k (told_now now k condition end key) a
  announces a =
      ap (λ o. option_map_or (λ one. all_told k (outcome_of k one now) a) o a)
      (get_changed_at k (concluded condition end) w.keys k
      ∙ ap (λ b. cond b (option_map (concluded condition end) (map.get w.keys k)) (map.get w.keys k)) (eq-eqb k k refl)
      ∙ ap (option_map (concluded condition end)) there)

  wait_concluded : (a : Sessions) (s : SessionId) → wait_of (announced now k (keys_then k condition end w) (spent k a)) s
      ≡ option_map (told_wait k (told_now now k condition end key)) (wait_of a s)
  wait_concluded a s =
      ap (λ x. wait_of x s) (announces (spent k a)) ∙ wait_told k (told_now now k condition end key) (spent k a) s
      ∙ ap (option_map (told_wait k (told_now now k condition end key))) (wait_spent k a s)

-- k gets its condition, loses its authority, and every wait on it gets the outcome
concluding : (old new : World) (now k : ℕ) (condition : Condition) (end : Option ℕ) → Builds old → is_unspent old k ≡ true
    → ((j : ℕ) → is_built new j ≡ cond (nat_eq k j) false (is_built old j)) → ((j : ℕ) → is_unspent new j ≡ cond (nat_eq k j) false (is_unspent old j))
    → ((key : Key) → map.get old.keys k ≡ Some key → WaitsTold k (told_now now k condition end key) old new) → Telling old new
concluding old new now k condition end builds u built unspents waits =
    let key = key_there old.keys k (builds k u) in
    tells_all k (told_now now k condition end key.0) (is_outcome k (concluded condition end key.0) now) u
    (unspents k ∙ ap (λ b. cond b false (is_unspent old k)) (eq-eqb k k refl)) (built k ∙ ap (λ b. cond b false (is_built old k)) (eq-eqb k k refl))
    (λ j other. stays (built j ∙ ap (λ b. cond b false (is_built old j)) other) (unspents j ∙ ap (λ b. cond b false (is_unspent old j)) other))
    (waits key.0 key.1)

-- the end of a handler, by whether its authority is unspent
abbrev ended_as : Bool → ℕ → ℕ → Condition → World → World
ended_as b now k condition w =
    let keys : map.FinMap nat_cmp Key = cond b (keys_then k condition (expiry_after condition now w.negative) w) w.keys in
    record w { keys = keys; sessions = without_construction k (cond b (announced now k keys (spent k w.sessions)) w.sessions) }

module _ (old new : World) (now k : ℕ) (condition : Condition) (final : is_final condition ≡ true) (builds : Builds old)
    (w : new ≡ tidied (ended now k condition old)) where
  abbrev end_then : Option ℕ
  end_then = expiry_after condition now old.negative

  ended_is : (b : Bool) → is_unspent old k ≡ b → new ≡ tidied (ended_as b now k condition old)
  ended_is b u = w ∙ ap (λ t. tidied (ended_as t now k condition old)) u

  unspent_then : (j : ℕ) → is_unspent new j ≡ cond (nat_eq k j) false (is_unspent old j)
  unspent_then j =
      ap (λ (v : World). is_unspent v j) w ∙ ap is_some (unspent_ended now k condition old j)
      ∙ of_choice is_some (nat_eq k j) None (unspent old.sessions j)

  spent_before : (j : ℕ) (b : Bool) → nat_eq k j ≡ b → is_unspent old k ≡ false → cond b false (is_unspent old j) ≡ is_unspent old j
  spent_before j true same u = sym (ap (is_unspent old) (sym (eqb-true k j same)) ∙ u)
  spent_before j false other u = refl

  ended_by : (b : Bool) → is_unspent old k ≡ b → Telling old new
  ended_by true u =
      let mid : World = tidied (ended_as true now k condition old) in
      let is : new ≡ mid = ended_is true u in
      concluding old new now k condition end_then builds u
      (λ j. built_as old new mid is j _ (built_tidied _ _ j ∙ built_concluded k condition end_then final old.keys j)) unspent_then
      (λ key there s v at. was_some (same_session (Handler k) s) _ v (sym (wait_at old new mid is s _
      (wait_removed k (announced now k (keys_then k condition end_then old) (spent k old.sessions)) s
      ∙ ap (cond (same_session (Handler k) s) None) (wait_concluded now k condition end_then old key there old.sessions s))) ∙ at))
  ended_by false u =
      let mid : World = tidied (ended_as false now k condition old) in
      let is : new ≡ mid = ended_is false u in
      tells_none (λ j. stays (built_as old new mid is j _ (built_tidied _ _ j)) (unspent_then j ∙ spent_before j (nat_eq k j) refl u))
      (fewer_waits old new (same_session (Handler k)) (λ s. wait_at old new mid is s _ (wait_removed k old.sessions s)))

-- ---- each step

same_sessions : (old new mid : World) → new ≡ mid → mid.sessions ≡ old.sessions → ((k : ℕ) → is_built mid k ≡ is_built old k) → Telling old new
same_sessions old new mid w same built =
    quiet old new mid w built (λ k. ap (λ a. is_some (unspent a k)) same) (same_waits old new (λ s. wait_at old new mid w s _ (ap (λ a. wait_of a s) same)))

unlinked : (old new : World) (ring : Option ℕ) (k : ℕ) → (new ≡ tidied (unlinked_in ring k old)) ⊎ (new ≡ tidied (cleared_in ring old)) → Telling old new
unlinked old new ring k (inl w) = same_sessions old new _ w refl (built_tidied _ _)
unlinked old new ring k (inr w) = same_sessions old new _ w refl (built_tidied _ _)

-- every step gives no wait an outcome, or every wait on one key the same
pub telling : (old : World) (now : ℕ) (e : Event) (a : Answer) (new : World) → Effect old now e a new → Goods old.sessions → IdleFresh old → Builds old
    → Telling old new
telling old now e a new (refused error ra w free) good idle builds = same_sessions old new old w refl (λ k. refl)
telling old now e a new (still t wait ev is ready ra w) good idle builds = same_sessions old new old w refl (λ k. refl)
telling old now e a new (took t wait outcome ev is ready ra w) good idle builds =
    quiet old new _ w (λ k. refl) (λ k. ap is_some (unspent_changed t _ old.sessions k))
    (fewer_waits old new (same_session t) (λ s. wait_at old new _ w s _ (wait_collected t old.sessions s)))
telling old now e a new (came n ev fresh ra w) good idle builds =
    quiet old new _ w (λ k. refl) (λ k. refl) (same_waits old new
    (λ s. wait_at old new _ w s _ (wait_came n old.sessions s (none_is (map.get old.sessions.clients n) fresh))))
telling old now e a new (went n ev there ra w) good idle builds =
    quiet old new _ w (built_tidied _ _) (λ k. refl) (fewer_waits old new (same_session (Client n)) (λ s. wait_at old new _ w s _ (wait_went n old.sessions s)))
telling old now e a new (greets n hello ev can none joined h) good idle builds =
    let same : h.4.sessions ≡ old.sessions = greeted_sessions _ old h.4 h.0 h.1 h.2 h.3 h.5 in
    let keys : h.4.keys ≡ old.keys = greeted_keys _ old h.4 h.0 h.1 h.2 h.3 h.5 in
    quiet old new _ h.6.1 (λ k. ap (λ m. built_at m k) keys)
    (λ k. ap is_some (unspent_changed (Client n) (with_context
    (record { uid = hello.uid; gid = hello.gid; thread = h.0; process = h.1; session = h.2; user = h.3 })) h.4.sessions k)
    ∙ ap (λ (x : Sessions). is_some (unspent x k)) same)
    (same_waits old new (λ s. wait_at old new _ h.6.1 s _ (wait_kept (Client n)
    (with_context (record { uid = hello.uid; gid = hello.gid; thread = h.0; process = h.1; session = h.2; user = h.3 })) (λ x. refl) h.4.sessions s
    ∙ ap (λ (x : Sessions). wait_of x s) same)))
telling old now e a new (begins t asker typ description callout r ring k ev can is depth fresh ra w) good idle builds =
    let authority : Authority = authority_for asker typ description now callout ring in
    let built : (j : ℕ) → is_built new j ≡ cond (nat_eq k j) true (is_built old j) =
    λ j. built_as old new _ w j _ (built_tidied _ _ j ∙ built_put k (new_key typ description asker.context.uid None) old.keys j) in
    let unspents : (j : ℕ) → unspent new.sessions j ≡ cond (nat_eq k j) (Some authority) (unspent old.sessions j) =
    λ j. ap (λ (v : World). unspent v.sessions j) w ∙ unspent_changed t _ (with_construction k _ old.sessions) j ∙ unspent_issued k _ old.sessions j in
    tells_none
    (λ j. by_key k j (Still old new j)
    (λ same is. is_new (ap (is_drawn old) (sym same) ∙ fresh.unused) (λ _. built j ∙ ap (λ b. cond b true (is_built old j)) is))
    (λ is. stays (built j ∙ ap (λ b. cond b true (is_built old j)) is)
    (ap is_some (unspents j) ∙ ap (λ b. is_some (cond b (Some authority) (unspent old.sessions j))) is)))
    (more_waits old new t k true (inl fresh.unused) (λ s. wait_at old new _ w s _
    (wait_begun t (new_wait k true) _ s (there_issued k _ old.sessions t (idle k fresh.unused) can.there)
    ∙ ap (cond (same_session t s) (Some (new_wait k true))) (wait_issued k _ old.sessions s (idle k fresh.unused)))))
telling old now e a new (joins t x ring k ev asks can building apart ra w) good idle builds =
    quiet old new _ w (built_tidied _ _) (λ j. ap is_some (unspent_changed t _ old.sessions j))
    (more_waits old new t k false (inr building) (λ s. wait_at old new _ w s _ (wait_begun t (new_wait k false) old.sessions s can.there)))
telling old now e a new (links t x ring k n ev completes_none not_assume ra w) good idle builds = same_sessions old new _ w refl (built_tidied _ _)
telling old now e a new (unlinks t x ring k ev completes_none not_assume ra w) good idle builds = unlinked old new ring k w
telling old now e a new (marks t x k f ev completes_none not_assume mild ra w) good idle builds =
    same_sessions old new _ w refl (built_marked k f mild old.keys)
telling old now e a new (tells t x bytes ev ra w) good idle builds = same_sessions old new old w refl (λ k. refl)
telling old now e a new (sets t x setting n ev completes_none not_assume can ra w) good idle builds =
    quiet old new _ w (λ k. refl) (λ k. ap is_some (unspent_changed t _ old.sessions k))
    (same_waits old new (λ s. wait_at old new _ w s _ (wait_kept t _ (λ x. refl) old.sessions s)))
telling old now e a new (adds t asker typ description payload r ring k ev fresh ra w) good idle builds =
    let built : (j : ℕ) → is_built new j ≡ cond (nat_eq k j) false (is_built old j) =
    λ j. built_as old new _ w j _ (built_tidied _ _ j ∙ built_put k (new_key typ description asker.context.uid (Some payload)) old.keys j) in
    let unspents : (j : ℕ) → is_unspent new j ≡ is_unspent old j = λ j. unspent_as old new _ w j _ refl in
    tells_none
    (λ j. by_key k j (Still old new j)
    (λ same is. is_new (ap (is_drawn old) (sym same) ∙ fresh.unused)
    (λ u. absurd (not_there old j idle (ap (is_drawn old) (sym same) ∙ fresh.unused) (sym (unspents j) ∙ u))))
    (λ is. stays (built j ∙ ap (λ b. cond b false (is_built old j)) is) (unspents j)))
    (same_waits old new (λ s. wait_at old new _ w s _ refl))
telling old now e a new (assumes t key ev can none ra w) good idle builds =
    quiet old new _ w (λ k. refl) (λ k. ap is_some (unspent_changed t _ old.sessions k))
    (same_waits old new (λ s. wait_at old new _ w s _ (wait_kept t _ (λ x. refl) old.sessions s)))
telling old now e a new (concludes t x asker ring k condition end ev which can is own final ra w) good idle builds =
    let by = concluder old t asker k is own in
    let mine = good by.0 by.1 k by.3 by.4 in
    let mid : World = tidied (completed now k condition end (linked_in ring k old)) in
    concluding old new now k condition end builds (ap (is_unspent old) mine.0 ∙ unspent_by old by.0 by.1 by.3 mine.1)
    (λ j. built_as old new mid w j _ (built_tidied _ _ j ∙ built_concluded k condition end final old.keys j))
    (λ j. unspent_as old new mid w j _ (ap is_some (unspent_concluded now k _ old.sessions j) ∙ of_choice is_some (nat_eq k j) None (unspent old.sessions j)))
    (λ key there s v at. sym (wait_at old new mid w s _ (wait_concluded now k condition end old key there old.sessions s)) ∙ at)
telling old now e a new (ran_plain k st ev is launches ra w) good idle builds =
    quiet old new _ w (built_tidied _ _) (λ j. ap is_some (unspent_launched k (Plain new_session) old.sessions j))
    (fewer_waits old new (same_session (Handler k)) (λ s. wait_at old new _ w s _ (wait_launched k (Plain new_session) refl old.sessions s)))
telling old now e a new (ran_piped k ev is ra w) good idle builds =
    quiet old new _ w (built_tidied _ _) (λ j. ap is_some (unspent_launched k Piped old.sessions j))
    (fewer_waits old new (same_session (Handler k)) (λ s. wait_at old new _ w s _ (wait_launched k Piped refl old.sessions s)))
telling old now e a new (negates k how payload ev is fails ra w) good idle builds =
    quiet old new _ w (λ j. refl) (λ j. ap is_some (unspent_launched k Negating old.sessions j))
    (fewer_waits old new (same_session (Handler k)) (λ s. wait_at old new _ w s _ (wait_launched k Negating refl old.sessions s)))
telling old now e a new (failed k st ev is launches ra w) good idle builds = ended_by old new now k (Negative error.NoKey) refl builds w (is_unspent old k) refl
telling old now e a new (finished k how payload st condition ev is running final ra w) good idle builds =
    ended_by old new now k condition final builds w (is_unspent old k) refl
