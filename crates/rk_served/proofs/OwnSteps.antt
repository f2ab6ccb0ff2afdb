-- What the own step of a happening does, out of what was called.
use Rattle.rk_served.proofs.Words.{refl, ◌∙◌, ap, sym, List, ◌≡◌, [], subst, ℕ, inr, true, ◌∷◌, inl, ◌++◌, Bool, false, ◌⊎◌, and_parts, append-nil, MatchBool}
use Rattle.rk_served.proofs.Words.{Some, Option, None, slice_get, slice_set, is_some, Errno, SessionId, Handler, Client, Stage, Starting, Plain, Piped}
use Rattle.rk_served.proofs.Words.{Negating, Line, Subject, unless, or_memory, done, Settles, Leaves, Event, open_refusal, would_negate, negating, Ends, Step}
use Rattle.rk_served.proofs.Words.{is_owed, World, Answer, Refused, Negate, Launched, Opened, Ended, How, Fault, StartsNow, is_refused, MakesOwnStep, IsStartAt}
use Rattle.rk_served.proofs.Words.{HasEnded, EndsOne, IsCommand, Left, peer, without, Part, one_step, Adds, EndsBy, is_last, is_followed, is_not_followed}
use Rattle.rk_served.proofs.Words.{OwnStep, negated, StepsBy, is_running, callout_to, payload_in, no_bytes, HasItsPeers, has_channel, fits_stage, Sits}
use Rattle.rk_served.proofs.Words.{Happening, Started, Output, Starts, Talks, Pipes, Peer}
use Rattle.rk_auth.specs.Sessions as sessions
use Rattle.rk_machine.specs.declared.event.Ran.TheVariants as ran
use Rattle.rk_machine.specs.Completion.{condition_after, ended}
use Rattle.rk_served.specs.declared.happening.Happening.TheVariants as happening
use Rattle.rk_served.specs.declared.output.Output.TheVariants as output
use Rattle.rk_served.proofs.PeersFit.{launch_done, follow_owed}

-- ---- what owed events are answered

opened_cases : (w : World) (now n : ℕ) (a : Answer) (v : World) → Step w now (Opened (Client n)) a v → (a ≡ done) ⊎ ((e : Errno) × (a ≡ Refused e))
unfolding Step
opened_cases w now n a v h =
    unless (open_refusal w n) w a v _ _ (λ e ra same. inr (e, ra)) (λ none g. or_memory w a v _ _ (λ e ra same. inr (e, ra)) (λ left. inl left.0) g) h

-- a handler that runs has ended, or another follows
pub ended_answered : (w : World) (now k : ℕ) (how : How) (payload : Option (List ℕ)) (a : Answer) (v : World) → is_running w k ≡ true
    → Step w now (Ended k how payload) a v → (a ≡ done) ⊎ (a ≡ Negate k)
unfolding Step
ended_answered w now k how payload a v h step = by_stage (sessions.stage_of w.sessions k) h step
  where
    by_end : (b : Bool) → MatchBool b (Leaves (Negate k) (negating k w) a v) (Settles done (ended now k (condition_after Piped how payload) w) a v) → (a ≡ done)
        ⊎ (a ≡ Negate k)
    by_end true g = inr g.0
    by_end false g = inl g.0

    by_stage : (o : Option Stage) → sessions.is_running o ≡ true → Ends w now k how payload o a v → (a ≡ done) ⊎ (a ≡ Negate k)
    by_stage None e g = absurd (cc)
    by_stage (Some Starting) e g = absurd (cc)
    by_stage (Some Negating) e g = absurd (cc)
    by_stage (Some (Plain s)) e g = inl g.0
    by_stage (Some Piped) e g = by_end (would_negate w k how payload) g

-- ---- parts

-- an own step without outputs is made without any
pub begins_quiet : (conf : List Line) (now : ℕ) (h : Happening) (old new : Left) (put : List Output) (part : Part) → part.outputs ≡ []
    → OwnStep conf now h old part new → MakesOwnStep conf now h old put new put
begins_quiet conf now h old new put part quiet b = record {
  part = part;
  own_step = b;
  outputs = sym (append-nil put) ∙ ap (λ (xs : List Output). put ++ xs) (sym quiet);
}

-- a step of the machine with these outputs is a part with that one step
pub steps_by : (now : ℕ) (event : Event) (old new : Left) (a b : Answer) (outputs : List Output) → a ≡ b → Step old.world now event a new.world
    → StepsBy now event b outputs old (one_step now event b outputs) new
steps_by now event old new a b outputs e step = record {
  step = subst (λ (x : Answer). Step old.world now event x new.world) e step;
  part_is = refl;
}

-- ---- clients

module _ (conf : List Line) (now n : ℕ) (old new : Left) (put : List Output) (a : Answer) (step : Step old.world now (Opened (Client n)) a new.world) where
  -- a client that is not refused gets a stream
  pub accepted_one : is_refused a ≡ false → Adds (peer (Client n) (Talks no_bytes) None) old.peers new.peers
      → MakesOwnStep conf now (happening.Accept n) old put new put
  accepted_one told adds = elim (opened_cases old.world now n a new.world step) [
    | inl e ↦ begins_quiet conf now (happening.Accept n) old new put (one_step now (Opened (Client n)) done []) refl
        (inl (steps_by now (Opened (Client n)) old new a done [] e step, adds))
    | inr e ↦ absurd (let t : is_refused a ≡ true = ap is_refused e.1 in cc)
  ]

  -- a client that is refused is shut
  pub refused_one : is_refused a ≡ true → new.peers ≡ old.peers → (put' : List Output) → put' ≡ put ++ output.Shut n ∷ []
      → MakesOwnStep conf now (happening.Accept n) old put new put'
  refused_one other same put' puts = elim (opened_cases old.world now n a new.world step) [
    | inl e ↦ absurd (let f : is_refused a ≡ false = ap is_refused e in cc)
    | inr e ↦ record {
      part = one_step now (Opened (Client n)) (Refused e.0) (output.Shut n ∷ []);
      own_step = inr (e.0, steps_by now (Opened (Client n)) old new a (Refused e.0) (output.Shut n ∷ []) e.1 step, same);
      outputs = puts;
    }
  ]

-- ---- starts

module _ (conf : List Line) (now k : ℕ) (old new : Left) (put put' : List Output) (i : ℕ) where
  -- a plain handler that has started gets a stream
  pub plain_one : (s : IsStartAt old.peers i k false) (a : Answer) → is_owed old.world (Launched k ran.Plain) ≡ true
      → Step old.world now (Launched k ran.Plain) a new.world → new.peers ≡ slice_set old.peers i (peer (Handler k) (Talks no_bytes) (Some s.0))
      → MakesOwnStep conf now (happening.StartResult k Started) old put new put
  plain_one s a owed step peers =
      begins_quiet conf now (happening.StartResult k Started) old new put (one_step now (Launched k ran.Plain) done []) refl
      (record {
        piped = false;
        subject = s.0;
        steps = steps_by now (Launched k ran.Plain) old new a done [] (launch_done old.world now k ran.Plain a new.world owed step) step;
        replaces = record { index = i; at = s.1; peers = peers };
      })

  -- a piped handler that has started is sent its callout, and its output begins empty
  pub piped_one : (s : IsStartAt old.peers i k true) (a : Answer) → is_owed old.world (Launched k ran.Piped) ≡ true
      → Step old.world now (Launched k ran.Piped) a new.world → new.peers ≡ slice_set old.peers i (peer (Handler k) (Pipes []) (Some s.0)) → put' ≡ put
      ++ callout_to k s.0.callout → MakesOwnStep conf now (happening.StartResult k Started) old put new put'
  piped_one s a owed step peers puts = record {
    part = one_step now (Launched k ran.Piped) done (callout_to k s.0.callout);
    own_step = record {
      piped = true;
      subject = s.0;
      steps = steps_by now (Launched k ran.Piped) old new a done (callout_to k s.0.callout) (launch_done old.world now k ran.Piped a new.world owed step) step;
      replaces = record { index = i; at = s.1; peers = peers };
    };
    outputs = puts;
  }

-- ---- ends

module _ (conf : List Line) (now k : ℕ) (event : Event) (subject : Option Subject) (peers : List Peer) (left : Left)
    (ended : HasEnded k event subject peers left) (a : Answer) (mid : World) (step : Step left.world now event a mid) where
  ends_step : Step left.world now (Ended k ended.how ended.payload) a mid
  ends_step = subst (λ (e : Event). Step left.world now e a mid) ended.event_is step

  answered : (a ≡ done) ⊎ (a ≡ Negate k)
  answered = ended_answered left.world now k ended.how ended.payload a mid ended.ran ends_step

  -- an end that no other handler follows is the last
  pub ends_last : ((j : ℕ) → a ≡ Negate j → ⊥) → (put : List Output)
      → EndsOne conf now k event subject (record { world = left.world; peers = peers }) put (record { world = mid; peers = left.peers }) put
  ends_last other put = elim answered [
    | inl e ↦ record {
      part = one_step now event done [];
      ends = is_last (record { step = subst (λ (x : Answer). Step left.world now event x mid) e step; part_is = refl }) ended.taken;
      outputs = sym (append-nil put);
    }
    | inr e ↦ absurd (other k e)
  ]

  follows : (j : ℕ) → a ≡ Negate j → (j ≡ k) × (a ≡ Negate k)
  follows j is = elim answered [
    | inl e ↦ absurd (let f = sym is ∙ e in cc)
    | inr e ↦ (same (sym is ∙ e), e)
  ]
    where
      same : {i j : ℕ} → ◌≡◌ {A = Answer} (Negate i) (Negate j) → i ≡ j
      same e = cc

  -- a construction that another handler follows was made for something
  pub ends_unmade : (j : ℕ) → a ≡ Negate j → subject ≡ None → ⊥
  ends_unmade j is none = (let e : is_some subject ≡ false = ap is_some none in let made = ended.made in cc)

  -- an end that another handler follows starts that one at once
  pub ends_followed : (j : ℕ) → a ≡ Negate j → (s : Subject) → subject ≡ Some s → (put : List Output) (new : Left) (put' : List Output)
      → StartsNow conf now j (negated s) (record { world = mid; peers = left.peers }) put new put'
      → EndsOne conf now k event subject (record { world = left.world; peers = peers }) put new put'
  ends_followed j is s made put new put' starts =
      by_start (subst (λ i. StartsNow conf now i (negated s) (record { world = mid; peers = left.peers }) put new put') (follows j is).0 starts)
    where
      first : Step left.world now event (Negate k) mid
      first = subst (λ (x : Answer). Step left.world now event x mid) (follows j is).1 step

      by_start : StartsNow conf now k (negated s) (record { world = mid; peers = left.peers }) put new put'
          → EndsOne conf now k event subject (record { world = left.world; peers = peers }) put new put'
      by_start (inl h) = record {
        part = one_step now event (Negate k) (output.Start k h.command ∷ []);
        ends = is_followed (record {
          subject = s;
          made = made;
          step = subst (λ (w : World). Step left.world now event (Negate k) w) (sym h.world) first;
          command = h.command;
          is_command = subst (λ (w : World). IsCommand conf w now k (negated s) h.command) (sym h.world) h.is_command;
          part_is = refl;
          adds = subst (λ (xs : List Peer). Adds (peer (Handler k) (Starts h.command.piped) (Some (negated s))) xs new.peers) ended.taken h.adds;
        });
        outputs = h.outputs;
      }
      by_start (inr h) = record {
        part = record {
          steps = Rattle.rk_served.specs.Left.step now event (Negate k) ∷ Rattle.rk_served.specs.Left.step now (Launched k ran.Failed) done ∷ [];
          outputs = [];
        };
        ends = is_not_followed (record {
          subject = s;
          made = made;
          mid = mid;
          first = first;
          no_command = h.no_command;
          second =
              subst (λ (x : Answer). Step mid now (Launched k ran.Failed) x new.world) (launch_done mid now k ran.Failed h.answer new.world
              (follow_owed left.world now k ended.how ended.payload mid
              (subst (λ (e : Event). Step left.world now e (Negate k) mid) ended.event_is first)) h.step) h.step;
          part_is = refl;
          peers = h.peers ∙ ended.taken;
        });
        outputs = h.outputs ∙ sym (append-nil put);
      }

-- what a happening that ends a handler does
made_for_some : (o : Option Stage) (x : Peer) → fits_stage o (Some x) ≡ true → is_some x.subject ≡ true
made_for_some None x fits = absurd (cc)
made_for_some (Some st) x fits = (and_parts (has_channel st x.channel) (is_some x.subject) fits).1

module _ (conf : List Line) (now k : ℕ) (old : Left) (x : Peer) (sits : Sits (Handler k) x old.peers) where
  -- a handler that ran has ended where its peer was taken away and the world is as it was
  pub has_ended : (how : How) (payload : Option (List ℕ)) (left : Left) → HasItsPeers old → is_running old.world k ≡ true → left.world ≡ old.world
      → left.peers ≡ without (Handler k) old.peers → HasEnded k (Ended k how payload) x.subject old.peers left
  has_ended how payload left s runs world taken = record {
    how = how;
    payload = payload;
    event_is = refl;
    ran = ap (λ (w : World). is_running w k) world ∙ runs;
    made = made_for_some (sessions.stage_of old.world.sessions k) x (ap (fits_stage (sessions.stage_of old.world.sessions k)) (sym sits.peer_is)
        ∙ s.constructions k);
    taken = taken;
  }

  there : slice_get old.peers sits.index ≡ Some (peer (Handler k) x.channel x.subject)
  there = sits.at ∙ ap (λ (w : SessionId). Some (peer w x.channel x.subject)) sits.who_is

  -- a handler that ends gives what it has output as its payload
  pub finish_one : (how : How) (payload : Option (List ℕ)) → payload ≡ payload_in x.channel → (put : List Output) (new : Left) (put' : List Output)
      → EndsOne conf now k (Ended k how payload) x.subject old put new put' → MakesOwnStep conf now (happening.HandlerEnded k how) old put new put'
  finish_one how payload paid put new put' h = record {
    part = h.part;
    own_step = record {
      index = sits.index;
      channel = x.channel;
      made_for = x.subject;
      at = there;
      ends = subst (λ (o : Option (List ℕ)). EndsBy conf now k (Ended k how o) x.subject old h.part new) paid h.ends;
    };
    outputs = h.outputs;
  }

  -- a handler whose wait fails ends without a payload
  pub break_one : (put : List Output) (new : Left) (put' : List Output) → EndsOne conf now k (Ended k Fault None) x.subject old put new put'
      → MakesOwnStep conf now (happening.WaitFault k) old put new put'
  break_one put new put' h = record {
    part = h.part;
    own_step = record { index = sits.index; channel = x.channel; made_for = x.subject; at = there; ends = h.ends };
    outputs = h.outputs;
  }

-- a handler that could not be read ends as one that could not be waited for
pub read_fault_one : (conf : List Line) (now k : ℕ) (old new : Left) (put put' : List Output) → MakesOwnStep conf now (happening.WaitFault k) old put new put'
    → MakesOwnStep conf now (happening.HandlerReadFault k) old put new put'
read_fault_one conf now k old new put put' h = record { part = h.part; own_step = h.own_step; outputs = h.outputs }
