-- The outcome of one key, and what a step makes of it.
use Rattle.rk_machine.proofs.Words.{◌≡◌, ℕ, ◌∙◌, ◌⊎◌, ◌∷◌, Bool, true, false, refl, ap, sym, inl, inr, subst, List, option_map_or, Option, Some, None, is_some}
use Rattle.rk_machine.proofs.Words.{option_map, option_and_then, Construction, Outcome, never, is_ending, is_completion, EachToldOf, IsOutcome, told_as, Past}
use Rattle.rk_machine.proofs.Words.{World, Answer, none_some, some_same, some_none}
use Rattle.std.specs.FinMap as map
use Rattle.rk_machine.specs.Laws.{wait_collected}
use Rattle.rk_machine.proofs.Effects.DrawnSerials.{is_drawn}
use Rattle.rk_machine.proofs.Effects.SerialsStayDrawn.{KeepsDrawn}
use Rattle.rk_machine.proofs.Effects.StagesAfter.{Shape, shape, shape_of}
use Rattle.rk_machine.proofs.OneConstruction.EachOnce.{Tied, clash, never_more}
use Rattle.rk_machine.proofs.Effects.AuthoritiesAfter.{is_unspent}
use Rattle.rk_machine.proofs.Effects.BuildingAfter.{is_built}
use Rattle.rk_machine.proofs.OneOutcome.WhoIsTold.{Still, stays, is_new, IsOpen}
use Rattle.rk_machine.proofs.Effects.OfOneConstruction.{Tests, tests, Turn, quiet, started_now, launched_now, negated_now, failed_now, ended_now, completed_now}
use Rattle.rk_machine.proofs.Effects.OfOneConstruction.{assumed_now, IsOwnAsk, Good}

-- ---- one key and its verdict, which is its outcome or none yet

-- what is so of one key
pub record Judged (past : List Past) (w : World) (k : ℕ) (verdict : Option Outcome) : Type 0 where
  pub builds : is_unspent w k ≡ true → is_built w k ≡ true
  pub settled : (o : Outcome) → verdict ≡ Some o → (is_drawn w k ≡ true) × (is_built w k ≡ false) × IsOutcome k (told_as o)
  pub spent : (x : Shape) → shape_of w.sessions k ≡ Some x → x.unspent ≡ false → verdict ≡ None → ⊥
  pub silent : verdict ≡ None → never (is_completion k) past × never (is_ending k) past
  pub told : (a : Answer) → ((o : Outcome) → verdict ≡ Some o → a ≡ told_as o) → EachToldOf k a past

-- a key's authority is unspent where its construction's shape says so
pub unspent_is : (w : World) (k : ℕ) → is_unspent w k ≡ option_map_or (λ (x : Shape). x.unspent) (shape_of w.sessions k) false
unspent_is w k = found (map.get w.sessions.constructions k)
  where
    found : (o : Option Construction) → is_some (option_and_then (λ c. c.authority) o) ≡ option_map_or (λ (x : Shape). x.unspent) (option_map shape o) false
    found None = refl
    found (Some c) = refl

-- ---- one step of one key

-- the key keeps its verdict, or gets one
pub data Ruled (old new : World) (k : ℕ) (before after : Option Outcome) : Type 0 where
  as_it_was : after ≡ before → Still old new k → Ruled old new k before after
  it_is_told : (o : Outcome) → before ≡ None → after ≡ Some o → IsOutcome k (told_as o) → is_unspent old k ≡ true → is_unspent new k ≡ false
      → is_built new k ≡ false → Ruled old new k before after

module _ (old : World) (s : Past) (new : World) (before : List Past) (k : ℕ) where
  abbrev pub TurnOf : Type 0
  TurnOf = Turn k (is_drawn old k) (is_drawn new k) (IsOwnAsk k s.event) (tests k s.event s.answer) (shape_of old.sessions k) (shape_of new.sessions k)

  abbrev unspent_in : Option Shape → Bool
  unspent_in o = option_map_or (λ (x : Shape). x.unspent) o false

  -- its authority is as it was, or it is new
  abbrev Kept : Option Shape → Option Shape → Type 0
  Kept o n = (unspent_in n ≡ unspent_in o) ⊎ (o ≡ None)

  kept : Tied k before (shape_of old.sessions k) (is_drawn old k) → Still old new k → Kept (shape_of old.sessions k) (shape_of new.sessions k)
  kept tie (stays b u) = inl (sym (unspent_is new k) ∙ u ∙ unspent_is old k)
  kept tie (is_new fresh b) = inr (tie.idle fresh)

  -- what is there is unspent
  abbrev Unspent : Option Shape → Type 0
  Unspent o = (x : Shape) → o ≡ Some x → x.unspent ≡ false → ⊥

  -- an authority is spent only by a step that tells the outcome
  not_lost : (x : Shape) → (false ≡ x.unspent) ⊎ (Some x ≡ None) → Unspent (Some x) → ⊥
  not_lost x (inl gone) free = free x refl (sym gone)
  not_lost x (inr none) free = some_none none

  -- who has no outcome was not completed, and not ended
  quiet_tests : (t : Tests) (o n : Option Shape) → Turn k (is_drawn old k) (is_drawn new k) (IsOwnAsk k s.event) t o n → Kept o n → Unspent o
      → (t.completion ≡ false) × (t.ending ≡ false)
  quiet_tests t o n (failed_now x waits) as_was free = absurd (not_lost x as_was free)
  quiet_tests t o n (ended_now x runs) as_was free = absurd (not_lost x as_was free)
  quiet_tests t o n (completed_now x asks own) as_was free = absurd (not_lost x as_was free)
  quiet_tests t o n _ as_was free = (refl, refl)

  still_unspent : (t : Tests) (o n : Option Shape) → Turn k (is_drawn old k) (is_drawn new k) (IsOwnAsk k s.event) t o n → Kept o n → Unspent o → Unspent n
  still_unspent t o n quiet as_was free y at gone = free y at gone
  still_unspent t o n (started_now fresh after) as_was free y at gone = clash _ gone (ap (λ (z : Shape). z.unspent) (sym (some_same at)))
  still_unspent t o n (failed_now x waits) as_was free y at gone = none_some at
  still_unspent t o n (ended_now x runs) as_was free y at gone = none_some at
  still_unspent t o n (completed_now x asks own) as_was free y at gone = not_lost x as_was free
  still_unspent t o n (launched_now x st waits runs firsts) as_was free y at gone = free x refl (ap (λ (z : Shape). z.unspent) (some_same at) ∙ gone)
  still_unspent t o n (negated_now x runs firsts spared) as_was free y at gone = free x refl (ap (λ (z : Shape). z.unspent) (some_same at) ∙ gone)
  still_unspent t o n (assumed_now x key runs own) as_was free y at gone = free x refl (ap (λ (z : Shape). z.unspent) (some_same at) ∙ gone)

-- ---- what is so of a key after a step

undrawn : (w : World) (past : List Past) (k : ℕ) → Tied k past (shape_of w.sessions k) (is_drawn w k) → is_unspent w k ≡ true → is_drawn w k ≡ true
undrawn w past k tie free = by_drawn (is_drawn w k) refl
  where
    by_drawn : (b : Bool) → is_drawn w k ≡ b → b ≡ true
    by_drawn true e = refl
    by_drawn false e =
        absurd (clash (is_unspent w k) (unspent_is w k ∙ ap (λ (o : Option Shape). option_map_or (λ (x : Shape). x.unspent) o false) (tie.idle e)) free)

-- an open key has no outcome
pub no_verdict : (w : World) (past : List Past) (k : ℕ) (verdict : Option Outcome) → Judged past w k verdict → IsOpen w k → verdict ≡ None
no_verdict w past k verdict j open_key = by_verdict verdict refl
  where
    settled_open : (o : Outcome) → verdict ≡ Some o → IsOpen w k → ⊥
    settled_open o is (inl fresh) = clash _ fresh (j.settled o is).0
    settled_open o is (inr built) = clash _ (j.settled o is).1 built

    by_verdict : (v : Option Outcome) → verdict ≡ v → v ≡ None
    by_verdict None is = refl
    by_verdict (Some o) is = absurd (settled_open o is open_key)

stays_drawn : (old new : World) (k : ℕ) → KeepsDrawn old new → is_drawn old k ≡ true → is_drawn new k ≡ true
stays_drawn old new k keeps is = by_drawn (is_drawn new k) refl
  where
    by_drawn : (b : Bool) → is_drawn new k ≡ b → b ≡ true
    by_drawn true e = refl
    by_drawn false e = absurd (clash _ (keeps k e) is)

module _ (old : World) (s : Past) (new : World) (before : List Past) (k : ℕ) (tie : Tied k before (shape_of old.sessions k) (is_drawn old k))
    (good : Good k (shape_of old.sessions k))
    (turn : TurnOf old s new before k) (keeps : KeepsDrawn old new) (v : Option Outcome) (j : Judged before old k v)
    (collected : wait_collected s before ≡ Some k → (o : Outcome) × (v ≡ Some o) × (s.answer ≡ told_as o)) where
  more_told : (u : Option Outcome) → ((o : Outcome) → v ≡ Some o → u ≡ Some o) → (a : Answer) → ((o : Outcome) → u ≡ Some o → a ≡ told_as o)
      → EachToldOf k a (s ∷ before)
  more_told u kept a h = (λ is. let c = collected is in c.2 ∙ sym (h c.0 (kept c.0 c.1)), j.told a (λ o is. h o (kept o is)))

  built_still : Still old new k → is_drawn old k ≡ true → is_built old k ≡ false → is_built new k ≡ false
  built_still (stays b u) drawn is = b ∙ is
  built_still (is_new fresh b) drawn is = absurd (clash _ fresh drawn)

  builds_still : Still old new k → is_unspent new k ≡ true → is_built new k ≡ true
  builds_still (stays b u) free = b ∙ j.builds (sym u ∙ free)
  builds_still (is_new fresh b) free = b free

  -- what is so of a key and its outcome is so after a step too
  pub judged_on : (u : Option Outcome) → Ruled old new k v u → Judged (s ∷ before) new k u
  judged_on u (as_it_was same is) = record {
    builds = builds_still is;
    settled = λ o at. let t = j.settled o (sym same ∙ at) in (stays_drawn old new k keeps t.0, built_still is t.0 t.1, t.2);
    spent =
        λ x at free none. still_unspent old s new before k _ _ _ turn (kept old s new before k tie is) (λ y is_at gone. j.spent y is_at gone (sym same ∙ none)) x at free;
    silent = λ none.
        let quiet_now = quiet_tests old s new before k _ _ _ turn (kept old s new before k tie is) (λ y at gone. j.spent y at gone (sym same ∙ none)) in
        let rest = j.silent (sym same ∙ none) in
        (never_more (is_completion k) s before quiet_now.0 rest.0, never_more (is_ending k) s before quiet_now.1 rest.1);
    told = more_told u (λ o at. same ∙ at);
  }
  judged_on u (it_is_told o open_before is outcome free gone built) = record {
    builds = λ f. absurd (clash _ gone f);
    settled =
        λ p at. (
          stays_drawn old new k keeps (undrawn old before k tie free),
          built,
          subst (λ (x : Outcome). IsOutcome k (told_as x))
              (some_same (sym is ∙ at)) outcome,
        );
    spent = λ x at f none. some_none (sym is ∙ none);
    silent = λ none. absurd (some_none (sym is ∙ none));
    told = more_told u (λ p at. absurd (none_some (sym open_before ∙ at)));
  }
