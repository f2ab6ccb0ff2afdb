-- What was never drawn is no construction, after each step of the machine.
use Rattle.rk_machine.proofs.Words.{◌≡◌, ℕ, ◌∙◌, Bool, true, false, cond, refl, ap, sym, subst, List, Option, Some, None, nat_eq, is_some, option_map}
use Rattle.rk_machine.proofs.Words.{is_none, eqb-true, SessionId, Subject, Ask, Sessions, session_of, stage_of, is_to_launch, is_starting, Construction, Stage}
use Rattle.rk_machine.proofs.Words.{Starting, Plain, Piped, Negating, Outcome, Found, Failed, Event, asked_of, names_in, may_launch, told_as, World, drawn}
use Rattle.rk_machine.proofs.Words.{Answer, Start, Asked, Ran, true_false, none_some, Step}
use Rattle.std.specs.FinMap as map
use Rattle.rk_message.specs.declared.ask.AskOf.TheVariants as ask
use Rattle.rk_machine.specs.declared.event.Ran.TheVariants as ran
use Rattle.rk_machine.proofs.Effects.DrawnSerials.{is_drawn}
use Rattle.rk_machine.proofs.Effects.SerialsStayDrawn.{keeps_drawn}
use Rattle.rk_machine.proofs.Effects.WaitsAreTheWorlds.{IdleFresh}
use Rattle.rk_machine.proofs.Effects.StagesByStep.{Kind, to_start, pipes, to_follow, kind, kind_in, kind_of, is_due, is_first_due, may_find, stage_kind}
use Rattle.rk_machine.proofs.Effects.StagesByStep.{kind_after, kinds, talks, refused_kind}
use Rattle.rk_machine.proofs.Effects.KindsOfStep.{Effect, effect}
use Rattle.rk_machine.proofs.Effects.OfSessions.{InSessions, in_sessions, is_refused, starts, collects, runs_plain, runs_piped, follows, not_run, ends}

-- a serial that was never drawn has no construction
abbrev pub IsIdle : World → Type 0
IsIdle w = (k : ℕ) → is_drawn w k ≡ false → kind_of w.sessions k ≡ None

-- if serials that were never drawn are idle, none of them has a construction
pub idle_fresh : (w : World) → IsIdle w → IdleFresh w
idle_fresh w idle k h = none (map.get w.sessions.constructions k) (idle k h)
  where
    none : (o : Option Construction) → kind_in o ≡ None → o ≡ None
    none None e = refl
    none (Some c) e = absurd (cc)

-- ---- a start draws its key

-- a start of this key tells what was asked for by a session that is there, and draws its serial
pub record IsStart (old : World) (e : Event) (new : World) (k : ℕ) (subject : Subject) : Type 0 where
  pub who : SessionId
  pub what : Ask
  pub asks : e ≡ Asked who what
  pub names : asked_of e ≡ Some (names_in subject)
  pub there : is_none (session_of old.sessions who) ≡ false
  pub fresh : is_drawn old k ≡ false
  pub drawn : is_drawn new k ≡ true

-- what an answer says, if it is a start
abbrev Starts : World → Event → World → Answer → Type 0
Starts old e new (Start k subject) = IsStart old e new k subject
Starts old e new _ = Unit {0}

told_no_start : (old : World) (e : Event) (new : World) (o : Outcome) → Starts old e new (told_as o)
told_no_start old e new (Found k) = tt
told_no_start old e new (Failed x) = tt

starting : (old new : World) (now : ℕ) (e : Event) (a : Answer) (b : Sessions) → InSessions old new now e a b → Starts old e new a
starting old new now e a b (starts s typ description callout r k subject authority names can fresh drawn) = record {
  who = s;
  what = ask.Request typ description (Some callout) r;
  asks = refl;
  names = ap (λ (n : List ℕ × (List ℕ × List ℕ)). Some n) (sym names);
  there = can.there;
  fresh = fresh.unused;
  drawn = drawn;
}
starting old new now e a b (collects s wait outcome is ready) = told_no_start old _ new outcome
starting old new now e a b _ = tt

-- an answer that starts a construction
pub start_is : (old : World) (now : ℕ) (e : Event) (a : Answer) (new : World) → Effect old now e a new → (k : ℕ) (subject : Subject) → a ≡ Start k subject
    → IsStart old e new k subject
start_is old now e a new is k subject ra = subst (Starts old e new) ra (starting old new now e a new.sessions (in_sessions old now e a new is))

-- a start draws the serial of its key
pub start_draws : (old : World) (now : ℕ) (e : Event) (a : Answer) (new : World) → Effect old now e a new → (k : ℕ) (subject : Subject) → a ≡ Start k subject
    → (is_drawn old k ≡ false) × (is_drawn new k ≡ true)
start_draws old now e a new is k subject ra = let start = start_is old now e a new is k subject ra in (start.fresh, start.drawn)

-- ---- a launch finds a construction

-- what a launch is allowed by
pub launch_kind : (w : World) (k : ℕ) (r : Ran) → may_launch r (stage_of w.sessions k) ≡ may_find r (kind_of w.sessions k)
launch_kind w k r = by_ran r
  where
    due : (o : Option Construction) → is_to_launch (option_map (λ c. c.stage) o) ≡ is_due (kind_in o)
    due None = refl
    due (Some c) = by_stage c.stage
      where
        by_stage : (st : Stage) → is_to_launch (Some st) ≡ is_due (Some (kind st))
        by_stage Starting = refl
        by_stage (Plain s) = refl
        by_stage Piped = refl
        by_stage Negating = refl

    first : (o : Option Construction) → is_starting (option_map (λ c. c.stage) o) ≡ is_first_due (kind_in o)
    first None = refl
    first (Some c) = by_stage c.stage
      where
        by_stage : (st : Stage) → is_starting (Some st) ≡ is_first_due (Some (kind st))
        by_stage Starting = refl
        by_stage (Plain s) = refl
        by_stage Piped = refl
        by_stage Negating = refl

    by_ran : (r : Ran) → may_launch r (stage_of w.sessions k) ≡ may_find r (kind_of w.sessions k)
    by_ran ran.Plain = due (map.get w.sessions.constructions k)
    by_ran ran.Piped = first (map.get w.sessions.constructions k)
    by_ran ran.Failed = due (map.get w.sessions.constructions k)

-- a launch that finds its construction finds one that is there
pub found_some : (r : Ran) (o : Option Kind) → may_find r o ≡ true → is_some o ≡ true
found_some r (Some x) h = refl
found_some ran.Plain None h = absurd (true_false (sym h))
found_some ran.Piped None h = absurd (true_false (sym h))
found_some ran.Failed None h = absurd (true_false (sym h))

-- ---- after a step

module _ (old new : World) (now k : ℕ) (idle : IsIdle old) (fresh : is_drawn old k ≡ false) (undrawn : is_drawn new k ≡ false) where
  -- a construction that is there is not that of k
  absent : (j : ℕ) (st : Stage) (x : Option Kind) → stage_of old.sessions j ≡ Some st → cond (nat_eq j k) x None ≡ None
  absent j st x is = by_test (nat_eq j k) refl
    where
      by_test : (b : Bool) → nat_eq j k ≡ b → cond b x None ≡ None
      by_test true same =
          absurd (none_some (sym (ap (kind_of old.sessions) (eqb-true j k same) ∙ idle k fresh) ∙ stage_kind old.sessions j st is))
      by_test false other = refl

  -- and neither is one that starts
  another : (j : ℕ) → is_drawn new j ≡ true → cond (nat_eq j k) (Some to_start) None ≡ None
  another j drawn = by_test (nat_eq j k) refl
    where
      by_test : (b : Bool) → nat_eq j k ≡ b → cond b (Some to_start) None ≡ None
      by_test true same = absurd (true_false (sym (sym (ap (is_drawn new) (eqb-true j k same)) ∙ drawn) ∙ undrawn))
      by_test false other = refl

  still_none : (e : Event) (a : Answer) (b : Sessions) → InSessions old new now e a b → kind_after k e a None ≡ None
  still_none e a b (is_refused y error w free) = refused_kind k y error None
  still_none e a b (starts s typ description callout r j subject authority names can unused drawn) = another j drawn
  still_none e a b (runs_plain j st is launches) = absent j st (Some talks) is
  still_none e a b (runs_piped j is) = absent j Starting (Some pipes) is
  still_none e a b (follows j how payload is free) = absent j Piped (Some to_follow) is
  still_none e a b (not_run j st condition is launches) = absent j st None is
  still_none e a b (ends j how payload st condition is running) = absent j st None is
  still_none e a b _ = refl

-- every step leaves the serials that were never drawn idle
pub idle_step : (old : World) (now : ℕ) (e : Event) (a : Answer) (new : World) → Step old now e a new → IsIdle old → IsIdle new
idle_step old now e a new step idle k undrawn =
    let is = effect old now e a new step in
    let fresh : is_drawn old k ≡ false = keeps_drawn old now e a new is k undrawn in
    kinds old now e a new is k ∙ ap (kind_after k e a) (idle k fresh)
    ∙ still_none old new now k idle fresh undrawn e a new.sessions (in_sessions old now e a new is)
