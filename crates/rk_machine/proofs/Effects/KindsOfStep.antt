-- What a step is: one of these, each with what it found and the world that it leaves.
use Rattle.rk_machine.proofs.Words.{MatchBool, option_map_or, Option, Some, None, is_some, option_map, unwrap_or, is_none, ℤ, pos, negsuc, nat_le, ◌==◌}
use Rattle.rk_machine.proofs.Words.{MatchOption, ◌≡◌, ℕ, Bool, true, false, cond, refl, ap, ◌∙◌, sym, ◌⊎◌, not, inl, inr, List, [], ◌∷◌, eqb-true, key_errno}
use Rattle.rk_machine.proofs.Words.{setting_number, Setting, Errno, SessionId, Client, Handler, Says, Ask, Number, Bytes, key_passes, is_building, new_key}
use Rattle.rk_machine.proofs.Words.{marked, timed, IsFresh, Condition, Building, Positive, Negative, Key, Leads, new_session, wait_of, session_of, stage_of}
use Rattle.rk_machine.proofs.Words.{is_to_launch, assumed_authority, Authority, Stage, Starting, Plain, Piped, Negating, Outcome, Wait, refused_if, done}
use Rattle.rk_machine.proofs.Words.{first_of, Leaves, Settles, Asker, asker_of, serial_named, ring_for, ring_refusal, ring_or_none_refusal, key_refusal}
use Rattle.rk_machine.proofs.Words.{own_refusal, gate, ask_refusal, assume_refusal, Completes, completion_refusal, Acting, Asking, ended, completed}
use Rattle.rk_machine.proofs.Words.{condition_after, Event, Greeting, join_refusal, Greets, Hellos, hello_refusal, serial_in, TellsOf, TellsCallout, ReadsKey}
use Rattle.rk_machine.proofs.Words.{Adds, with_key_changed, setting_asked, is_authority, read_refusal, revoke_refusal, timeout_refusal, link_refusal}
use Rattle.rk_machine.proofs.Words.{unlink_refusal, add_refusal, completes, unlinked_in, cleared_in, linked_in, full_refusal, is_request, query, waiting}
use Rattle.rk_machine.proofs.Words.{MeetsBuilding, MeetsPositive, Meets, Misses, Requests, start_refusal, destination_of, subject_of, started, with_key}
use Rattle.rk_machine.proofs.Words.{new_authority, Query, block_of, Step, collected, open_refusal, opened, may_launch, would_negate, negating, Ends, told_as}
use Rattle.rk_machine.proofs.Words.{gone, World, tidied, Answer, Done, Start, Waiting, Refused, Negate, Opened, Asked, Launched, Ended, Collect, Gone, How}
use Rattle.rk_machine.proofs.Words.{Exit, Ran, by_option, or_left, not_not, if_none, none_is, first_none, unless, or_memory}
use Rattle.std.specs.FinMap as map
use Rattle.rk_names.specs.declared.errors.Errno.TheVariants as errno
use Rattle.rk_names.specs.declared.errors.KeyError.TheVariants as error
use Rattle.rk_message.specs.declared.ask.AskOf.TheVariants as ask
use Rattle.rk_auth.specs.Changes as sessions
use Rattle.rk_machine.specs.declared.event.Ran.TheVariants as ran
use Rattle.rk_machine.specs.Steps.{launched}

-- the session is there and does not wait
pub record CanAsk (w : World) (s : SessionId) : Type 0 where
  pub there : is_none (session_of w.sessions s) ≡ false
  pub free : wait_of w.sessions s ≡ None

-- the condition of a key that is complete
abbrev pub is_final : Condition → Bool
is_final Building = false
is_final (Positive payload) = true
is_final (Negative e) = true

-- a change of a key that leaves its name, its owner and its condition
pub record IsMild (f : Key → Key) : Type 0 where
  pub typ : (key : Key) → (f key).typ ≡ key.typ
  pub description : (key : Key) → (f key).description ≡ key.description
  pub owner : (key : Key) → (f key).owner ≡ key.owner
  pub condition : (key : Key) → (f key).condition ≡ key.condition

-- the authority of a construction that starts for this asker
abbrev pub authority_for : Asker → List ℕ → List ℕ → ℕ → List ℕ → ℕ → Authority
authority_for asker typ description now callout ring = new_authority (query asker typ description now) callout asker.depth ring

-- each step is one of these
pub data Effect (old : World) (now : ℕ) (e : Event) (a : Answer) (new : World) : Type 0 where
  -- refused, and nothing changed
  refused : (error : Errno) → a ≡ Refused error → new ≡ old → ((s : SessionId) → e ≡ Collect s → wait_of old.sessions s ≡ None) → Effect old now e a new
  -- a wait that may not be collected yet
  still : (s : SessionId) (wait : Wait) → e ≡ Collect s → wait_of old.sessions s ≡ Some wait → sessions.ready_outcome old.sessions wait ≡ None
      → a ≡ Waiting wait.key → new ≡ old → Effect old now e a new
  -- a wait that is collected
  took : (s : SessionId) (wait : Wait) (outcome : Outcome) → e ≡ Collect s → wait_of old.sessions s ≡ Some wait
      → sessions.ready_outcome old.sessions wait ≡ Some outcome → a ≡ told_as outcome → new ≡ collected s old → Effect old now e a new
  -- a client comes
  came : (n : ℕ) → e ≡ Opened (Client n) → map.contains_key old.sessions.clients n ≡ false → a ≡ done → new ≡ opened n old → Effect old now e a new
  -- a client goes
  went : (n : ℕ) → e ≡ Gone (Client n) → map.contains_key old.sessions.clients n ≡ true → a ≡ done → new ≡ tidied (gone n old) → Effect old now e a new
  -- a client gets its context
  greets : (n : ℕ) (hello : Greeting) → e ≡ Asked (Client n) (ask.Hello hello) → CanAsk old (Client n)
      → asker_of old (Client n) ≡ None
      → join_refusal old hello ≡ None
      → Greets old (Client n) hello a new → Effect old now e a new
  -- a construction starts
  begins : (s : SessionId) (asker : Asker) (typ description callout : List ℕ) (r : ℤ) (ring k : ℕ)
      → e ≡ Asked s (ask.Request typ description (Some callout) r) → CanAsk old s → asker_of old s ≡ Some asker → nat_le 9 asker.depth ≡ false
      → IsFresh old.serials k
      → a ≡ Start k (subject_of old k (query asker typ description now) callout)
      → new ≡ tidied (waiting s k true (started k (query asker typ description now) (authority_for asker typ description now callout ring) old))
      → Effect old now e a new
  -- a session waits for a key under construction
  joins : (s : SessionId) (x : Ask) (ring : Option ℕ) (k : ℕ) → e ≡ Asked s x → is_request x ≡ true → CanAsk old s → key_passes old.keys k is_building ≡ true
      → ¬ (Leads old.sessions k s) → a ≡ Waiting k → new ≡ tidied (waiting s k false (linked_in ring k old)) → Effect old now e a new
  -- a key is found, or linked
  links : (s : SessionId) (x : Ask) (ring : Option ℕ) (k n : ℕ) → e ≡ Asked s x → ((j : ℕ) → completes x j ≡ false) → ((key : ℤ) → ¬ (x ≡ ask.Assume key))
      → a ≡ Done (Number n) → new ≡ tidied (linked_in ring k old) → Effect old now e a new
  -- links are taken out of a ring
  unlinks : (s : SessionId) (x : Ask) (ring : Option ℕ) (k : ℕ) → e ≡ Asked s x → ((j : ℕ) → completes x j ≡ false) → ((key : ℤ) → ¬ (x ≡ ask.Assume key))
      → a ≡ done
      → (new ≡ tidied (unlinked_in ring k old)) ⊎ (new ≡ tidied (cleared_in ring old)) → Effect old now e a new
  -- a key is marked, or gets another expiry
  marks : (s : SessionId) (x : Ask) (k : ℕ) (f : Key → Key) → e ≡ Asked s x → ((j : ℕ) → completes x j ≡ false) → ((key : ℤ) → ¬ (x ≡ ask.Assume key))
      → IsMild f → a ≡ done → new ≡ with_key_changed k f old → Effect old now e a new
  -- bytes are returned
  tells : (s : SessionId) (x : Ask) (bytes : List ℕ) → e ≡ Asked s x → a ≡ Done (Bytes bytes) → new ≡ old → Effect old now e a new
  -- a setting is set
  sets : (s : SessionId) (x : Ask) (setting : Setting) (n : ℕ) → e ≡ Asked s x → ((j : ℕ) → completes x j ≡ false) → ((key : ℤ) → ¬ (x ≡ ask.Assume key))
      → CanAsk old s → a ≡ Done (Number n)
      → new ≡ record old { sessions = sessions.session_changed s (sessions.with_setting setting) old.sessions } → Effect old now e a new
  -- a key is added
  adds : (s : SessionId) (asker : Asker) (typ description payload : List ℕ) (r : ℤ) (ring k : ℕ) → e ≡ Asked s (ask.Add typ description payload r)
      → IsFresh old.serials k
      → a ≡ Done (Number k) → new ≡ tidied (with_key k (new_key typ description asker.context.uid (Some payload)) ring old) → Effect old now e a new
  -- an authority is assumed, or dropped
  assumes : (s : SessionId) (key : ℤ) → e ≡ Asked s (ask.Assume key) → CanAsk old s → assume_refusal old s key ≡ None → a ≡ done
      → new ≡ record old { sessions = sessions.session_changed s (sessions.with_assumed (serial_named key)) old.sessions } → Effect old now e a new
  -- a key is completed
  concludes : (s : SessionId) (x : Ask) (asker : Asker) (ring : Option ℕ) (k : ℕ) (condition : Condition) (end : Option ℕ) → e ≡ Asked s x
      → ((j : ℕ) → completes x j ≡ (k == j)) → CanAsk old s
      → asker_of old s ≡ Some asker → asker.assumed ≡ Some k → is_final condition ≡ true → a ≡ done
      → new ≡ tidied (completed now k condition end (linked_in ring k old)) → Effect old now e a new
  -- a handler runs
  ran_plain : (k : ℕ) (st : Stage) → e ≡ Launched k ran.Plain → stage_of old.sessions k ≡ Some st → is_to_launch (Some st) ≡ true → a ≡ done
      → new ≡ tidied (record old { sessions = sessions.launched k (Plain new_session) old.sessions }) → Effect old now e a new
  ran_piped : (k : ℕ) → e ≡ Launched k ran.Piped → stage_of old.sessions k ≡ Some Starting → a ≡ done
      → new ≡ tidied (record old { sessions = sessions.launched k Piped old.sessions }) → Effect old now e a new
  -- a piped handler failed, and another one is to be started
  negates : (k : ℕ) (how : How) (payload : Option (List ℕ)) → e ≡ Ended k how payload → stage_of old.sessions k ≡ Some Piped
      → would_negate old k how payload ≡ true → a ≡ Negate k → new ≡ negating k old → Effect old now e a new
  -- a handler could not be started, or has ended
  failed : (k : ℕ) (st : Stage) → e ≡ Launched k ran.Failed → stage_of old.sessions k ≡ Some st → is_to_launch (Some st) ≡ true → a ≡ done
      → new ≡ tidied (ended now k (Negative error.NoKey) old) → Effect old now e a new
  finished : (k : ℕ) (how : How) (payload : Option (List ℕ)) (st : Stage) (condition : Condition) → e ≡ Ended k how payload → stage_of old.sessions k ≡ Some st
      → is_to_launch (Some st) ≡ false → is_final condition ≡ true → a ≡ done
      → new ≡ tidied (ended now k condition old) → Effect old now e a new

-- ---- what was passed

can_ask : (w : World) (s : SessionId) (x : Ask) → ask_refusal w s x ≡ None → CanAsk w s × (gate w s x ≡ None)
can_ask w s x h =
    let one = first_none (refused_if (is_none (session_of w.sessions s)) errno.Einval) _ h in
    let two = first_none (refused_if (is_some (wait_of w.sessions s)) errno.Ebusy) _ one.1 in
    (record { there = if_none _ errno.Einval one.0; free = none_is _ (if_none _ errno.Ebusy two.0) }, (first_none (gate w s x) [] two.1).0)

shallow : (w : World) (asker : Asker) (q : Query) (ring : ℕ) (left : Bool)
    → first_of (option_map key_errno (block_of w q) ∷ start_refusal w asker q ring left ∷ []) ≡ None → nat_le 9 asker.depth ≡ false
shallow w asker q ring left none =
    let last = (first_none (start_refusal w asker q ring left) [] (first_none (option_map key_errno (block_of w q)) _ none).1).0 in
    or_left (nat_le 9 asker.depth) _ (or_left _ _ (or_left _ _ (if_none _ errno.Edquot last)))

same_collect : {s t : SessionId} → ◌≡◌ {A = Event} (Collect s) (Collect t) → s ≡ t
same_collect e = cc

-- ---- asks

module _ (old : World) (now : ℕ) (s : SessionId) (a : Answer) (new : World) where
  no_ask : (x : Ask) (error : Errno) → a ≡ Refused error → new ≡ old → Effect old now (Asked s x) a new
  no_ask x error ra same = refused error ra same (λ t e. absurd (cc))

  module _ (can : CanAsk old s) (asker : Asker) (is : asker_of old s ≡ Some asker) (typ description : List ℕ) (r : ℤ) where
    misses : (callout : Option (List ℕ)) (ring : ℕ) → Misses old s asker (query asker typ description now) callout ring a new
        → Effect old now (Asked s (ask.Request typ description callout r)) a new
    misses None ring h = no_ask (ask.Request typ description None r) _ h.0 h.1
    misses (Some callout) ring h =
        let q : Query = query asker typ description now in
        unless (first_of (option_map key_errno (block_of old q) ∷ start_refusal old asker q ring h.0 ∷ [])) old a new _ _
        (no_ask (ask.Request typ description (Some callout) r)) (λ none.
        or_memory old a new _ _ (no_ask (ask.Request typ description (Some callout) r)) (λ b.
        begins s asker typ description callout r ring b.0 refl can is (shallow old asker q ring h.0 none) b.1 b.2.0 b.2.1)) h.2

    no_circle : (k : ℕ) (circle : Bool) → Says circle (Leads old.sessions k s) → circle ≡ false → ¬ (Leads old.sessions k s)
    no_circle k true says e = absurd (cc)
    no_circle k false says e = says

    meets : (callout : Option (List ℕ)) (b : Bool) (k : ℕ) (ring : Option ℕ) → key_passes old.keys k is_building ≡ b
        → MatchBool b (MeetsBuilding old s k ring a new) (MeetsPositive old k ring a new)
        → Effect old now (Asked s (ask.Request typ description callout r)) a new
    meets callout true k ring building h =
        unless (first_of (refused_if h.0 errno.Edeadlk ∷ full_refusal old ring k ∷ [])) old a new _ _ (no_ask (ask.Request typ description callout r))
        (λ none g.
        joins s (ask.Request typ description callout r) ring k refl refl can building
        (no_circle k h.0 h.1 (if_none _ errno.Edeadlk (first_none (refused_if h.0 errno.Edeadlk) _ none).0)) g.0 g.1) h.2
    meets callout false k ring building h =
        unless (full_refusal old ring k) old a new _ _ (no_ask (ask.Request typ description callout r)) (λ _ g.
        links s (ask.Request typ description callout r) ring k k refl (λ j. refl) (λ key e. absurd (cc)) g.0 g.1) h

    found_or_not : (callout : Option (List ℕ)) (o : Option ℕ)
        → MatchOption o (Misses old s asker (query asker typ description now) callout (destination_of old asker r) a new)
        (λ k. Meets old s k (ring_for old asker r) a new)
        → Effect old now (Asked s (ask.Request typ description callout r)) a new
    found_or_not callout None h = misses callout (destination_of old asker r) h
    found_or_not callout (Some k) h = meets callout (key_passes old.keys k is_building) k (ring_for old asker r) refl h

    requests : (callout : Option (List ℕ)) → Requests old now s asker typ description callout r a new
        → Effect old now (Asked s (ask.Request typ description callout r)) a new
    unfolding Requests
    requests callout h =
        unless (ring_or_none_refusal old asker r) old a new _ _ (no_ask (ask.Request typ description callout r)) (λ _ g. found_or_not callout g.0 g.2) h

  -- ---- completion

  -- who may complete a key has assumed its authority
  owned : (asker : Asker) (key : ℤ) → own_refusal asker (serial_named key) ≡ None → (k : ℕ) × (key ≡ pos k) × (serial_in key ≡ k) × (asker.assumed ≡ Some k)
  owned asker (negsuc n) h = absurd (cc)
  owned asker (pos n) h = positive n (n == 0) refl h
    where
      assumed_is : (o : Option ℕ) (n : ℕ) → option_map_or (λ j. j == n) o false ≡ true → o ≡ Some n
      assumed_is None n e = absurd (cc)
      assumed_is (Some j) n e = ap (λ (x : ℕ). Some x) (eqb-true j n e)

      positive : (n : ℕ) (b : Bool) → (n == 0) ≡ b → own_refusal asker (cond b None (Some n)) ≡ None
          → (k : ℕ) × (pos n ≡ pos k) × (unwrap_or (cond (n == 0) None (Some n)) 0 ≡ k) × (asker.assumed ≡ Some k)
      positive n true e h = absurd (cc)
      positive n false e h = (n, refl, ap (λ b. unwrap_or (cond b None (Some n)) 0) e, assumed_is asker.assumed n (not_not _ (if_none _ errno.Eperm h)))

  completing : (x : Ask) (asker : Asker) (key r : ℤ) (condition : Condition) (end : Option ℕ) → ((k j : ℕ) → key ≡ pos k → completes x j ≡ (k == j))
      → CanAsk old s → asker_of old s ≡ Some asker → is_final condition ≡ true
      → Completes old now asker key r condition end a new → Effect old now (Asked s x) a new
  unfolding Completes
  completing x asker key r condition end which can is final h =
      unless (completion_refusal old asker key r) old a new _ _ (no_ask x) (λ none g.
      let own = owned asker key (first_none (own_refusal asker (serial_named key)) _ none).0 in
      concludes s x asker (ring_for old asker r) (serial_in key) condition end refl
      (λ j. which own.0 j own.1 ∙ ap (λ k. k == j) (sym own.2)) can is (own.3 ∙ ap (λ (k : ℕ). Some k) (sym own.2)) final g.0 g.1) h

  -- ---- the asks on keys and rings

  told_bytes : (x : Ask) (bytes : Key → List ℕ) (k : ℕ) → TellsOf bytes old k a new → Effect old now (Asked s x) a new
  told_bytes x bytes k h = or_memory old a new _ _ (no_ask x) (λ g. tells s x _ refl g.0 g.1) h

  told_callout : (x : Ask) → TellsCallout old s a new → Effect old now (Asked s x) a new
  told_callout x h =
      by_option (assumed_authority old.sessions s) _ _ _ (λ _ g. no_ask x _ g.0 g.1)
      (λ one _ g. or_memory old a new _ _ (no_ask x) (λ f. tells s x one.callout refl f.0 f.1) g) h

  reads : (asker : Asker) (key : ℤ) (b : Bool) → MatchBool b (TellsCallout old s a new) (ReadsKey old now asker key a new)
      → Effect old now (Asked s (ask.Read key)) a new
  reads asker key true h = told_callout (ask.Read key) h
  reads asker key false h =
      unless (read_refusal old asker now key) old a new _ _ (no_ask (ask.Read key)) (λ _ g. told_bytes (ask.Read key) _ (serial_in key) g) h

  adding : (asker : Asker) (typ description payload : List ℕ) (r : ℤ) → Adds old asker typ description payload r a new
      → Effect old now (Asked s (ask.Add typ description payload r)) a new
  unfolding Adds
  adding asker typ description payload r h =
      unless (add_refusal old asker typ description r h.0) old a new _ _ (no_ask (ask.Add typ description payload r)) (λ _.
      or_memory old a new _ _ (no_ask (ask.Add typ description payload r)) (λ g.
      adds s asker typ description payload r g.0 g.2.0 refl g.2.1 g.2.2.0 g.2.2.1)) h.2

  marked_mild : IsMild marked
  marked_mild = record { typ = λ key. refl; description = λ key. refl; owner = λ key. refl; condition = λ key. refl }

  timed_mild : (seconds : ℕ) → IsMild (timed now seconds)
  timed_mild seconds = record { typ = λ key. refl; description = λ key. refl; owner = λ key. refl; condition = λ key. refl }

  acting : (x : Ask) (P : Asker → Type 0) → Acting old s a new P → ((asker : Asker) → asker_of old s ≡ Some asker → P asker → Effect old now (Asked s x) a new)
      → Effect old now (Asked s x) a new
  acting x P h on = by_option (asker_of old s) P _ _ (λ _ g. no_ask x _ g.0 g.1) (λ asker is g. on asker is g) h

greeting : (old : World) (now : ℕ) (s : SessionId) (hello : Greeting) (a : Answer) (new : World) → CanAsk old s
    → gate old s (ask.Hello hello) ≡ None
    → Hellos old s hello a new
    → Effect old now (Asked s (ask.Hello hello)) a new
unfolding Hellos
greeting old now (Client n) hello a new can gated h =
    unless (hello_refusal old hello h.0) old a new _ _
    (no_ask old now (Client n) a new (ask.Hello hello)) (λ none.
    or_memory old a new _ _ (no_ask old now (Client n) a new (ask.Hello hello)) (λ g.
    greets n hello refl can (none_is _ (if_none _ errno.Einval gated))
    (first_none (join_refusal old hello) _ none).0 g)) h.2
greeting old now (Handler k) hello a new can gated h = absurd (cc)

asking : (old : World) (now : ℕ) (s : SessionId) (x : Ask) (a : Answer) (new : World) → CanAsk old s → gate old s x ≡ None → Asking old now s x a new
    → Effect old now (Asked s x) a new
asking old now s (ask.Hello hello) a new can gated h = greeting old now s hello a new can gated h
asking old now s (ask.Request typ description callout r) a new can gated h =
    acting old now s a new (ask.Request typ description callout r) _ h (λ asker is g. requests old now s a new can asker is typ description r callout g)
asking old now s (ask.Assume key) a new can gated h =
    unless (assume_refusal old s key) old a new _ _ (no_ask old now s a new (ask.Assume key)) (λ none g. assumes s key refl can none g.0 g.1) h
asking old now s (ask.Instantiate key payload r) a new can gated h =
    acting old now s a new (ask.Instantiate key payload r) _ h
    (λ asker is g. completing old now s a new (ask.Instantiate key payload r) asker key r _ _
    (λ k j e. ap (λ z. completes (ask.Instantiate z payload r) j) e) can is refl g)
asking old now s (ask.Negate key timeout r) a new can gated h =
    acting old now s a new (ask.Negate key timeout r) _ h (λ asker is g. completing old now s a new (ask.Negate key timeout r) asker key r _ _
    (λ k j e. ap (λ z. completes (ask.Negate z timeout r) j) e) can is refl g)
asking old now s (ask.Reject key timeout e r) a new can gated h =
    acting old now s a new (ask.Reject key timeout e r) _ h (λ asker is g. completing old now s a new (ask.Reject key timeout e r) asker key r _ _
    (λ k j same. ap (λ z. completes (ask.Reject z timeout e r) j) same) can is refl g)
asking old now s (ask.Read key) a new can gated h =
    acting old now s a new (ask.Read key) _ h (λ asker is g. reads old now s a new asker key (is_authority key) g)
asking old now s (ask.Describe key) a new can gated h =
    acting old now s a new (ask.Describe key) _ h (λ asker is g. unless (key_refusal old asker (serial_named key)) old a new _ _
    (no_ask old now s a new (ask.Describe key)) (λ _ f. told_bytes old now s a new (ask.Describe key) _ (serial_in key) f) g)
asking old now s (ask.Revoke key) a new can gated h =
    acting old now s a new (ask.Revoke key) _ h (λ asker is g. unless (revoke_refusal old asker key) old a new _ _ (no_ask old now s a new (ask.Revoke key))
    (λ _ f.
    marks s (ask.Revoke key) (serial_in key) marked refl (λ j. refl) (λ k e. absurd (cc)) (marked_mild old now s a new) f.0 f.1) g)
asking old now s (ask.Timeout key seconds) a new can gated h =
    acting old now s a new (ask.Timeout key seconds) _ h (λ asker is g. unless (timeout_refusal old now asker key) old a new _ _
    (no_ask old now s a new (ask.Timeout key seconds)) (λ _ f.
    marks s (ask.Timeout key seconds) (serial_in key) (timed now seconds) refl (λ j. refl) (λ k e. absurd (cc)) (timed_mild old now s a new seconds) f.0 f.1) g)
asking old now s (ask.Link key r) a new can gated h =
    acting old now s a new (ask.Link key r) _ h (λ asker is g. unless (link_refusal old now asker key r) old a new _ _ (no_ask old now s a new (ask.Link key r))
    (λ _ f.
    links s (ask.Link key r) (ring_for old asker r) (serial_in key) 0 refl (λ j. refl) (λ k e. absurd (cc)) f.0 f.1) g)
asking old now s (ask.Unlink key r) a new can gated h =
    acting old now s a new (ask.Unlink key r) _ h (λ asker is g. unless (unlink_refusal old asker key r) old a new _ _
    (no_ask old now s a new (ask.Unlink key r)) (λ _ f.
    unlinks s (ask.Unlink key r) (ring_for old asker r) (serial_in key) refl (λ j. refl) (λ k e. absurd (cc)) f.0 (inl f.1)) g)
asking old now s (ask.Clear r) a new can gated h =
    acting old now s a new (ask.Clear r) _ h (λ asker is g. unless (ring_refusal old asker r) old a new _ _ (no_ask old now s a new (ask.Clear r)) (λ _ f.
    unlinks s (ask.Clear r) (ring_for old asker r) 0 refl (λ j. refl) (λ k e. absurd (cc)) f.0 (inr f.1)) g)
asking old now s (ask.Default number) a new can gated h =
    acting old now s a new (ask.Default number) _ h (λ asker is g. by_option (setting_asked number asker.setting) _ _ _
    (λ _ f. no_ask old now s a new (ask.Default number) _ f.0 f.1) (λ setting _ f.
    sets s (ask.Default number) setting (setting_number asker.setting) refl (λ j. refl) (λ k e. absurd (cc)) can f.0 f.1) g)
asking old now s (ask.Add typ description payload r) a new can gated h =
    acting old now s a new (ask.Add typ description payload r) _ h (λ asker is g. adding old now s a new asker typ description payload r g)
asking old now s ask.Callout a new can gated h = told_callout old now s a new ask.Callout h

-- ---- other events

final_after : (st : Stage) (how : How) (payload : Option (List ℕ)) → is_final (condition_after st how payload) ≡ true
final_after Piped (Exit n) (Some payload) =
    elim (n == 0) as (λ b. is_final (cond b (Positive payload) (Negative error.NoKey)) ≡ true) [ true ↦ refl | false ↦ refl ]
final_after _ _ _ = refl

ending : (old : World) (now k : ℕ) (how : How) (payload : Option (List ℕ)) (st : Option Stage) (a : Answer) (new : World) → stage_of old.sessions k ≡ st
    → Ends old now k how payload st a new → Effect old now (Ended k how payload) a new
ending old now k how payload None a new is h = refused _ h.0 h.1 (λ t e. absurd (cc))
ending old now k how payload (Some Starting) a new is h = refused _ h.0 h.1 (λ t e. absurd (cc))
ending old now k how payload (Some Negating) a new is h = refused _ h.0 h.1 (λ t e. absurd (cc))
ending old now k how payload (Some (Plain s)) a new is h =
    finished k how payload (Plain s) (condition_after (Plain s) how payload) refl is refl (final_after (Plain s) how payload) h.0 h.1
ending old now k how payload (Some Piped) a new is h = by_end (would_negate old k how payload) refl h
  where
    by_end : (b : Bool) → would_negate old k how payload ≡ b
        → MatchBool b (Leaves (Negate k) (negating k old) a new) (Settles done (ended now k (condition_after Piped how payload) old) a new)
        → Effect old now (Ended k how payload) a new
    by_end true fails g = negates k how payload refl is fails g.0 g.1
    by_end false fails g = finished k how payload Piped (condition_after Piped how payload) refl is refl (final_after Piped how payload) g.0 g.1

launching : (old : World) (now k : ℕ) (r : Ran) (st : Option Stage) (a : Answer) (new : World) → stage_of old.sessions k ≡ st → may_launch r st ≡ true
    → a ≡ done → new ≡ tidied (launched now k r old) → Effect old now (Launched k r) a new
launching old now k ran.Plain None a new is may ra w = absurd (cc)
launching old now k ran.Plain (Some st) a new is may ra w = ran_plain k st refl is may ra w
launching old now k ran.Piped None a new is may ra w = absurd (cc)
launching old now k ran.Piped (Some Starting) a new is may ra w = ran_piped k refl is ra w
launching old now k ran.Piped (Some (Plain s)) a new is may ra w = absurd (cc)
launching old now k ran.Piped (Some Piped) a new is may ra w = absurd (cc)
launching old now k ran.Piped (Some Negating) a new is may ra w = absurd (cc)
launching old now k ran.Failed None a new is may ra w = absurd (cc)
launching old now k ran.Failed (Some st) a new is may ra w = failed k st refl is may ra w

-- whatever step the machine may take, it is one of these
pub effect : (old : World) (now : ℕ) (e : Event) (a : Answer) (new : World) → Step old now e a new → Effect old now e a new
unfolding Step
effect old now (Opened (Client n)) a new h =
    unless (open_refusal old n) old a new _ _ (λ error ra same. refused error ra same (λ t e. absurd (cc))) (λ none.
    or_memory old a new _ _ (λ error ra same. refused error ra same (λ t e. absurd (cc)))
    (λ g. came n refl (if_none _ errno.Ebusy (first_none (refused_if (map.contains_key old.sessions.clients n) errno.Ebusy) _ none).0) g.0 g.1)) h
effect old now (Opened (Handler k)) a new h = refused _ h.0 h.1 (λ t e. absurd (cc))
effect old now (Asked s x) a new h =
    unless (ask_refusal old s x) old a new _ _ (no_ask old now s a new x) (λ none. asking old now s x a new (can_ask old s x none).0 (can_ask old s x none).1) h
effect old now (Launched k r) a new h =
    unless (refused_if (not (may_launch r (stage_of old.sessions k))) errno.Einval) old a new _ _ (λ error ra same. refused error ra same (λ t e. absurd (cc)))
    (λ none g. launching old now k r (stage_of old.sessions k) a new refl (not_not _ (if_none _ errno.Einval none)) g.0 g.1) h
effect old now (Ended k how payload) a new h = ending old now k how payload (stage_of old.sessions k) a new refl h
effect old now (Collect s) a new h =
    by_option (wait_of old.sessions s) _ _ _ (λ none g. refused _ g.0 g.1 (λ t e. ap (wait_of old.sessions) (sym (same_collect e)) ∙ none)) (λ wait is g.
    by_option (sessions.ready_outcome old.sessions wait) _ _ _ (λ none f. still s wait refl is none f.0 f.1)
    (λ outcome ready f. took s wait outcome refl is ready f.0 f.1) g) h
effect old now (Gone (Client n)) a new h =
    unless (refused_if (not (map.contains_key old.sessions.clients n)) errno.Einval) old a new _ _ (λ error ra same. refused error ra same (λ t e. absurd (cc)))
    (λ none g. went n refl (not_not _ (if_none _ errno.Einval none)) g.0 g.1) h
effect old now (Gone (Handler k)) a new h = refused _ h.0 h.1 (λ t e. absurd (cc))
