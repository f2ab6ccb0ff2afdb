-- In every run each key has one outcome, and all who wait on it get that one.
use Rattle.rk_machine.proofs.Words.{◌≡◌, ℕ, ◌∙◌, ◌⊎◌, ◌∷◌, Bool, true, false, cond, refl, ap, sym, inl, inr, subst, List, [], nat_eq_equiv, option_map_or}
use Rattle.rk_machine.proofs.Words.{nat_cmp, Option, Some, None, nat_eq, is_some, option_map, option_and_then, eqb-true, Errno, SessionId, Client, Handler}
use Rattle.rk_machine.proofs.Words.{told_wait, wait_of, handler_in, Construction, Outcome, Found, Failed, Session, Wait, is_waiting, waited, never, is_ending}
use Rattle.rk_machine.proofs.Words.{is_completion, EachToldOf, IsOutcome, EachOutcome, told_as, Past, Beginning, Run, World, empty_world, Answer, Waiting}
use Rattle.rk_machine.proofs.Words.{Refused, Collect, none_some, some_same, Step}
use Rattle.std.specs.FinMap as map
use Rattle.rk_machine.specs.Laws.{wait_collected}
use Rattle.rk_machine.proofs.Effects.KindsOfStep.{Effect, effect}
use Rattle.rk_machine.proofs.Effects.SerialsStayDrawn.{keeps_drawn}
use Rattle.rk_machine.proofs.Effects.StagesAfter.{Shape, shape, shape_of}
use Rattle.rk_machine.proofs.Effects.OfOneConstruction.{turns}
use Rattle.rk_machine.proofs.Effects.WaitsAreTheWorlds.{IdleFresh}
use Rattle.rk_machine.proofs.OneConstruction.EachOnce.{Knows, knows, clash}
use Rattle.rk_machine.proofs.Effects.WaitsAfter.{flag}
use Rattle.rk_machine.proofs.NoCircle.NeverCircle.{KnowsWaits, waits_known, idle_known}
use Rattle.rk_machine.proofs.OneOutcome.WhoIsTold.{IsOpen, WaitsStay, Telling, tells_none, tells_all, telling}
use Rattle.rk_machine.proofs.OneOutcome.WhatACollectFinds.{Collected, nothing, not_yet, now_told, at_collect, ready_is, not_ready, collect_of}
use Rattle.rk_machine.proofs.OneOutcome.OutcomeOfAKey.{Judged, Ruled, as_it_was, it_is_told, TurnOf, unspent_is, no_verdict, judged_on}

-- ---- the outcome of each key

abbrev Verdicts : Type 0
Verdicts = ℕ → Option Outcome

-- each wait has the outcome of its key
abbrev Agrees : World → Verdicts → Type 0
Agrees w V = (s : SessionId) (v : Wait) → wait_of w.sessions s ≡ Some v → v.outcome ≡ V v.key

pub record Decided (past : List Past) (w : World) : Type 0 where
  pub verdicts : ℕ → Option Outcome
  pub judged : (k : ℕ) → Judged past w k (verdicts k)
  pub agree : (s : SessionId) (v : Wait) → wait_of w.sessions s ≡ Some v → v.outcome ≡ verdicts v.key

-- ---- the waits after a step

abbrev with_verdict : ℕ → Outcome → Verdicts → Verdicts
with_verdict k o V j = cond (nat_eq k j) (Some o) (V j)

told_agrees : (k : ℕ) (o : Outcome) (V : Verdicts) (v : Wait) → v.outcome ≡ V v.key → (told_wait k o v).outcome ≡ with_verdict k o V v.key
told_agrees k o V v h =
    elim (nat_eq v.key k) as (λ b. nat_eq v.key k ≡ b → cond b (Some o) v.outcome ≡ cond (nat_eq k v.key) (Some o) (V v.key)) [
      | true ↦ λ same. sym (ap (λ b. cond b (Some o) (V v.key)) (nat_eq_equiv.symm k v.key ∙ same))
      | false ↦ λ other. h ∙ sym (ap (λ b. cond b (Some o) (V v.key)) (nat_eq_equiv.symm k v.key ∙ other))
    ] refl

told_in : (k : ℕ) (o : Outcome) (V : Verdicts) (x : Option Wait) (v : Wait) → ((u : Wait) → x ≡ Some u → u.outcome ≡ V u.key)
    → option_map (told_wait k o) x ≡ Some v → v.outcome ≡ with_verdict k o V v.key
told_in k o V None v agree h = absurd (cc)
told_in k o V (Some u) v agree h = subst (λ (x : Wait). x.outcome ≡ with_verdict k o V x.key) (same_wait h) (told_agrees k o V u (agree u refl))
  where
    same_wait : {x y : Wait} → Some x ≡ Some y → x ≡ y
    same_wait e = cc

module _ (old : World) (s : Past) (new : World) (before : List Past) (known : Knows old before) (waits : KnowsWaits before old) (idle : IdleFresh old)
    (d : Decided before old)
    (step : Step old s.now s.event s.answer new) where
  is : Effect old s.now s.event s.answer new
  is = effect old s.now s.event s.answer new step

  -- a collect that ends a wait on k tells the outcome of k
  collected_is : (k : ℕ) → wait_collected s before ≡ Some k → (o : Outcome) × (d.verdicts k ≡ Some o) × (s.answer ≡ told_as o)
  collected_is k h = by_collect found.0 (at_collect old s.now s.event found.0 s.answer new found.1 step) found.2 found.3
    where
      found : (t : SessionId) × (s.event ≡ Collect t) × (is_waiting s.answer ≡ false) × (option_map (λ (wait : ℕ × Bool). wait.0) (waited t before) ≡ Some k)
      found = collect_of s before k h

      key_of : (t : SessionId) (o : Option Wait) → wait_of old.sessions t ≡ o → option_map (λ (wait : ℕ × Bool). wait.0) (waited t before) ≡ Some k
          → option_map (λ (wait : Wait). wait.key) o ≡ Some k
      key_of t o at key =
          option_key o ∙ ap (λ o. option_map (λ (wait : ℕ × Bool). wait.0) (option_map flag o)) (sym at)
          ∙ ap (option_map (λ (wait : ℕ × Bool). wait.0)) (waits.same t) ∙ key
        where
          option_key : (o : Option Wait) → option_map (λ (wait : Wait). wait.key) o ≡ option_map (λ (wait : ℕ × Bool). wait.0) (option_map flag o)
          option_key None = refl
          option_key (Some w) = refl

      by_collect : (t : SessionId) → Collected old t s.answer → is_waiting s.answer ≡ false
          → option_map (λ (wait : ℕ × Bool). wait.0) (waited t before) ≡ Some k → (o : Outcome) × (d.verdicts k ≡ Some o) × (s.answer ≡ told_as o)
      by_collect t (nothing error none ra) answered key = absurd (no_key (key_of t None none key))
        where
          no_key : {n : ℕ} → None ≡ Some n → ⊥
          no_key e = cc
      by_collect t (not_yet wait at ready ra) answered key = absurd (clash (is_waiting s.answer) answered (ap is_waiting ra))
      by_collect t (now_told wait outcome at ready ra) answered key =
          let same : wait.key ≡ k = some_key (key_of t (Some wait) at key) in
          (outcome, ap d.verdicts (sym same) ∙ sym (d.agree t wait at) ∙ ready_is old.sessions wait outcome ready, ra)
        where
          some_key : {m n : ℕ} → Some m ≡ Some n → m ≡ n
          some_key e = cc

  turn_of : (k : ℕ) → TurnOf old s new before k
  turn_of k = turns old s.now s.event s.answer new is known.0 k

  by_rule : (V : Verdicts) → ((k : ℕ) → Ruled old new k (d.verdicts k) (V k)) → Agrees new V → Decided (s ∷ before) new
  by_rule V rule agrees = record {
    verdicts = V;
    judged =
        λ k. judged_on old s new before k (known.1 k) (known.0 k) (turn_of k) (keeps_drawn old s.now s.event s.answer new is) (d.verdicts k) (d.judged k)
        (collected_is k) (V k) (rule k);
    agree = agrees;
  }

  agrees_still : WaitsStay old new → Agrees new d.verdicts
  agrees_still stay t v at = by_wait (stay t v at)
    where
      by_wait : (wait_of old.sessions t ≡ Some v) ⊎ ((v.outcome ≡ None) × IsOpen old v.key) → v.outcome ≡ d.verdicts v.key
      by_wait (inl was) = d.agree t v was
      by_wait (inr new) = new.0 ∙ sym (no_verdict old before v.key (d.verdicts v.key) (d.judged v.key) new.1)

  decided_on : Telling old new → Decided (s ∷ before) new
  decided_on (tells_none still stay) = by_rule d.verdicts (λ k. as_it_was refl (still k)) (agrees_still stay)
  decided_on (tells_all k o outcome free gone built still told_all) =
      by_rule (with_verdict k o d.verdicts) (λ j. ruled j (nat_eq k j) refl)
      (λ t v at. told_in k o d.verdicts (wait_of old.sessions t) v (d.agree t) (told_all t v at))
    where
      ruled : (j : ℕ) (b : Bool) → nat_eq k j ≡ b → Ruled old new j (d.verdicts j) (cond b (Some o) (d.verdicts j))
      ruled j true same =
          subst (λ (x : ℕ). Ruled old new x (d.verdicts x) (Some o)) (eqb-true k j same)
          (it_is_told o (no_verdict old before k (d.verdicts k) (d.judged k) (inr ((d.judged k).builds free))) refl outcome free gone built)
      ruled j false other = as_it_was refl (still j other)

  decided_next : Decided (s ∷ before) new
  decided_next = decided_on (telling old s.now s.event s.answer new is known.0 idle (λ k. (d.judged k).builds))

-- ---- every run

nothing_decided : (from : Beginning) → Decided [] (empty_world from.negative from.first from.stride)
nothing_decided from =
    let none : (k : ℕ) → shape_of (empty_world from.negative from.first from.stride).sessions k ≡ None = λ k. ap (option_map shape) (map.get-empty nat_cmp k) in
    record {
      verdicts = λ k. None;
      judged = λ k. record {
        builds =
            λ free. absurd (clash _ (unspent_is (empty_world from.negative from.first from.stride) k
            ∙ ap (λ (o : Option Shape). option_map_or (λ (x : Shape). x.unspent) o false) (none k)) free);
        settled = λ o is. absurd (none_some is);
        spent = λ x is free never. none_some (sym (none k) ∙ is);
        silent = λ _. (refl, refl);
        told = λ a h. tt;
      };
      agree = λ s v is. absurd (no_wait (sym (waitless s) ∙ is));
    }
  where
    no_wait : {v : Wait} → None ≡ Some v → ⊥
    no_wait e = cc

    waitless : (s : SessionId) → wait_of (empty_world from.negative from.first from.stride).sessions s ≡ None
    waitless (Client n) = ap (option_and_then (λ (one : Session). one.wait)) (map.get-empty nat_cmp n)
    waitless (Handler k) =
        ap (λ o. option_and_then (λ (one : Session). one.wait) (option_and_then (λ (c : Construction). handler_in c.stage) o)) (map.get-empty nat_cmp k)

decided : (from : Beginning) (past : List Past) (w : World) → Run from past w → Decided past w
decided from [] w run = subst (λ (v : World). Decided [] v) (sym run) (nothing_decided from)
decided from (s ∷ before) w run =
    decided_next run.0 s w before (knows from before run.0 run.1) (waits_known from before run.0 run.1) (idle_known from before run.0 run.1)
    (decided from before run.0 run.1) run.2

-- ---- the law

module _ (old : World) (s : Past) (new : World) (before : List Past) (known : Knows old before) (waits : KnowsWaits before old) (idle : IdleFresh old)
    (d : Decided before old)
    (step : Step old s.now s.event s.answer new) where
  one_answer : (k : ℕ) → wait_collected s before ≡ Some k → IsOutcome k s.answer × EachToldOf k s.answer before
  one_answer k h =
      let c = collected_is old s new before known waits idle d step k h in (
        subst (λ (a : Answer). IsOutcome k a) (sym c.2) ((d.judged k).settled c.0 c.1).2,
        (d.judged k).told s.answer
            (λ o is. c.2 ∙ ap told_as (some_same (sym c.1 ∙ is))),
      )

  -- while the construction goes on, it is not ended
  goes_on : (k : ℕ) → map.contains_key old.sessions.constructions k ≡ true → never (is_ending k) before
  goes_on k there = found (map.get old.sessions.constructions k) refl there
    where
      by_stage : (x : Shape) (b : Bool) → shape_of old.sessions k ≡ Some x → x.starting ≡ b → never (is_ending k) before
      by_stage x true at e = ((known.1 k).there x at).going
      by_stage x false at e = ((known.1 k).there x at).going

      found : (o : Option Construction) → map.get old.sessions.constructions k ≡ o → is_some o ≡ true → never (is_ending k) before
      found None e h = absurd (cc)
      found (Some c) e h = by_stage (shape c) (shape c).starting (ap (option_map shape) e) refl

  no_outcome_yet : (v : Wait) → ((v.starter ≡ true) × (map.contains_key old.sessions.constructions v.key ≡ true)) ⊎ (v.outcome ≡ None)
      → v.outcome ≡ d.verdicts v.key
      → never (is_ending v.key) before × (v.starter ≡ false → never (is_completion v.key) before)
  no_outcome_yet v (inl its) agrees = (goes_on v.key its.1, λ waits_only. absurd (clash v.starter waits_only its.0))
  no_outcome_yet v (inr none) agrees = let quiet_so_far = (d.judged v.key).silent (sym agrees ∙ none) in (quiet_so_far.1, λ _. quiet_so_far.0)

  not_yet_told : (t : SessionId) (j k : ℕ) (starter : Bool) → s.event ≡ Collect t → s.answer ≡ Waiting j → waited t before ≡ Some (k, starter)
      → (j ≡ k) × never (is_ending k) before × (starter ≡ false → never (is_completion k) before)
  not_yet_told t j k starter ev ra is = by_collect (at_collect old s.now s.event t s.answer new ev step)
    where
      refused_waiting : {error : Errno} → Waiting j ≡ Refused error → ⊥
      refused_waiting e = cc

      told_waiting : (o : Outcome) → Waiting j ≡ told_as o → ⊥
      told_waiting (Found n) e = cc
      told_waiting (Failed error) e = cc

      same_key : {m n : ℕ} → ◌≡◌ {A = Answer} (Waiting m) (Waiting n) → m ≡ n
      same_key e = cc

      same_flag : {v : ℕ × Bool} → Some v ≡ Some (k, starter) → v ≡ (k, starter)
      same_flag e = cc

      by_collect : Collected old t s.answer → (j ≡ k) × never (is_ending k) before × (starter ≡ false → never (is_completion k) before)
      by_collect (nothing error none answer) = absurd (refused_waiting (sym ra ∙ answer))
      by_collect (now_told v outcome at ready answer) = absurd (told_waiting outcome (sym ra ∙ answer))
      by_collect (not_yet v at ready answer) =
          let flags : flag v ≡ (k, starter) = same_flag (ap (option_map flag) (sym at) ∙ waits.same t ∙ is) in
          let so = no_outcome_yet v (not_ready old.sessions v ready) (d.agree t v at) in
          subst (λ (f : ℕ × Bool). (j ≡ f.0) × never (is_ending f.0) before × (f.1 ≡ false → never (is_completion f.0) before)) flags
          (same_key (sym ra ∙ answer), so.0, so.1)

-- each key has one outcome, for all who wait
pub each_outcome : (from : Beginning) (past : List Past) (w : World) → Run from past w → EachOutcome past
each_outcome from [] w run = tt
each_outcome from (s ∷ before) w run =
    let known = knows from before run.0 run.1 in
    let waits = waits_known from before run.0 run.1 in
    let idle = idle_known from before run.0 run.1 in
    let d = decided from before run.0 run.1 in (
      record { one = one_answer run.0 s w before known waits idle d run.2; waits = not_yet_told run.0 s w before known waits idle d run.2 },
      each_outcome from
          before run.0 run.1,
    )
