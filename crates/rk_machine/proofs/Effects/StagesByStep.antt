-- How far each construction is, and which clients are there, after each step of the machine.
use Rattle.rk_machine.proofs.Words.{◌≡◌, ℕ, ◌∙◌, ◌&&◌, Bool, true, false, cond, refl, ap, sym, nat_cmp, Option, Some, None, nat_eq, is_some, option_map}
use Rattle.rk_machine.proofs.Words.{eqb-true, Errno, SessionId, Client, Handler, Condition, Key, session_changed, in_handler, in_new_stage, spent}
use Rattle.rk_machine.proofs.Words.{without_authority, with_construction, all_told, told, with_context, with_assumed, in_stage, Sessions, new_session, stage_of}
use Rattle.rk_machine.proofs.Words.{Authority, Construction, Stage, Starting, Plain, Piped, Negating, Outcome, Session, announced, sessions_ended, ended, Event}
use Rattle.rk_machine.proofs.Words.{is_done, is_followed, World, Answer, Start, Refused, Asked, Launched, Ended, Ran, get_inserted, get_removed, get_changed_at}
use Rattle.rk_machine.proofs.Words.{get_changed_all, of_choice}
use Rattle.std.specs.FinMap as map
use Rattle.rk_auth.specs.Changes.{launched}
use Rattle.rk_machine.specs.declared.event.Ran.TheVariants as ran
use Rattle.rk_machine.proofs.Effects.KindsOfStep.{Effect}
use Rattle.rk_machine.proofs.Effects.OfSessions.{InSessions, in_sessions, is_refused, collects, greeted, starts, waits_for, is_set, assumed, concluded}
use Rattle.rk_machine.proofs.Effects.OfSessions.{runs_plain, runs_piped, follows, not_run, ends}
use Rattle.rk_machine.proofs.Effects.LeftByOutcomes.{left_announced, left_settled}

-- ---- constructions, by their stages

-- how far a construction is
pub data Kind : Type 0 where
  to_start : Kind  -- its handler is to be started
  talks : Kind  -- a plain handler runs
  pipes : Kind  -- a piped one runs
  to_follow : Kind  -- a piped one failed, and another is to be started

-- the kind of a stage
abbrev pub kind : Stage → Kind
kind Starting = to_start
kind (Plain s) = talks
kind Piped = pipes
kind Negating = to_follow

-- the same, of what is found of a construction
abbrev pub kind_in : Option Construction → Option Kind
kind_in o = option_map (λ c. kind c.stage) o

-- the kind of the construction of k, if there is one
abbrev pub kind_of : Sessions → ℕ → Option Kind
kind_of a k = kind_in (map.get a.constructions k)

-- a handler is to be started, be it the first or another
abbrev pub is_due : Option Kind → Bool
is_due (Some to_start) = true
is_due (Some talks) = false
is_due (Some pipes) = false
is_due (Some to_follow) = true
is_due None = false

-- the first
abbrev pub is_first_due : Option Kind → Bool
is_first_due (Some to_start) = true
is_first_due (Some talks) = false
is_first_due (Some pipes) = false
is_first_due (Some to_follow) = false
is_first_due None = false

-- the kind that a launch with this result may meet
abbrev pub may_find : Ran → Option Kind → Bool
may_find ran.Plain o = is_due o
may_find ran.Piped o = is_first_due o
may_find ran.Failed o = is_due o

staged : (f : Session → Session) (st : Stage) → kind (in_stage f st) ≡ kind st
staged f Starting = refl
staged f (Plain s) = refl
staged f Piped = refl
staged f Negating = refl

kept_at : (f : Construction → Construction) → ((c : Construction) → kind (f c).stage ≡ kind c.stage) → (b : Bool) (o : Option Construction)
    → kind_in (cond b (option_map f o) o) ≡ kind_in o
kept_at f h true None = refl
kept_at f h true (Some c) = ap (λ (x : Kind). Some x) (h c)
kept_at f h false o = refl

kept_all : (f : Construction → Construction) → ((c : Construction) → kind (f c).stage ≡ kind c.stage) → (o : Option Construction)
    → kind_in (option_map f o) ≡ kind_in o
kept_all f h None = refl
kept_all f h (Some c) = ap (λ (x : Kind). Some x) (h c)

kind_changed : (s : SessionId) (f : Session → Session) (a : Sessions) (q : ℕ) → kind_of (session_changed s f a) q ≡ kind_of a q
kind_changed (Client n) f a q = refl
kind_changed (Handler k) f a q =
    ap kind_in (get_changed_at k (in_handler f) a.constructions q) ∙ kept_at (in_handler f) (λ c. staged f c.stage) (nat_eq k q) (map.get a.constructions q)

kind_told : (k : ℕ) (o : Outcome) (a : Sessions) (q : ℕ) → kind_of (all_told k o a) q ≡ kind_of a q
kind_told k o a q =
    ap kind_in (get_changed_all (in_handler (told k o)) a.constructions q) ∙ kept_all (in_handler (told k o)) (λ c. staged (told k o) c.stage)
    (map.get a.constructions q)

kind_spent : (k : ℕ) (a : Sessions) (q : ℕ) → kind_of (spent k a) q ≡ kind_of a q
kind_spent k a q =
    ap kind_in (get_changed_at k without_authority a.constructions q) ∙ kept_at without_authority (λ c. staged (with_assumed None) c.stage) (nat_eq k q)
    (map.get a.constructions q)

kind_announced : (now k : ℕ) (keys : map.FinMap nat_cmp Key) (a : Sessions) (q : ℕ) → kind_of (announced now k keys a) q ≡ kind_of a q
kind_announced now k keys a q = left_announced (λ b. kind_of b q) (λ j o b. kind_told j o b q) now k keys a

kind_settled : (now k : ℕ) (condition : Condition) (w : World) (q : ℕ) → kind_of (sessions_ended now k condition w) q ≡ kind_of w.sessions q
kind_settled now k condition w q = left_settled (λ b. kind_of b q) (λ j o b. kind_told j o b q) (λ j b. kind_spent j b q) now k condition w

kind_ended : (now k : ℕ) (condition : Condition) (w : World) (q : ℕ)
    → kind_of (ended now k condition w).sessions q ≡ cond (nat_eq k q) None (kind_of w.sessions q)
kind_ended now k condition w q =
    ap kind_in (get_removed (sessions_ended now k condition w).constructions k q)
    ∙ of_choice kind_in (nat_eq k q) None (map.get (sessions_ended now k condition w).constructions q) ∙ ap (cond (nat_eq k q) None) (kind_settled now k condition w q)

kind_issued : (k : ℕ) (authority : Authority) (a : Sessions) (q : ℕ)
    → kind_of (with_construction k authority a) q ≡ cond (nat_eq k q) (Some to_start) (kind_of a q)
kind_issued k authority a q =
    ap kind_in (get_inserted a.constructions k _ q)
    ∙ of_choice kind_in (nat_eq k q) (Some (record { stage = Starting; authority = Some authority })) (map.get a.constructions q)

-- a construction that is there is in the stage from now on
launched_in : (st : Stage) (b : Bool) (o : Option Construction) → (b ≡ true → is_some o ≡ true)
    → kind_in (cond b (option_map (in_new_stage st) o) o) ≡ cond b (Some (kind st)) (kind_in o)
launched_in st true None there = absurd (let e = there refl in cc)
launched_in st true (Some c) there = refl
launched_in st false o there = refl

stage_there : (a : Sessions) (k : ℕ) (st : Stage) → stage_of a k ≡ Some st → is_some (map.get a.constructions k) ≡ true
stage_there a k st h = found (map.get a.constructions k) h
  where
    found : (o : Option Construction) → option_map (λ c. c.stage) o ≡ Some st → is_some o ≡ true
    found None e = absurd (cc)
    found (Some c) e = refl

-- the stage of a construction gives its kind
pub stage_kind : (a : Sessions) (k : ℕ) (st : Stage) → stage_of a k ≡ Some st → kind_of a k ≡ Some (kind st)
stage_kind a k st h = found (map.get a.constructions k) h
  where
    found : (o : Option Construction) → option_map (λ c. c.stage) o ≡ Some st → kind_in o ≡ Some (kind st)
    found None e = absurd (cc)
    found (Some c) e = ap (λ (o : Option Stage). option_map kind o) e

kind_launched : (k : ℕ) (st was : Stage) (a : Sessions) (q : ℕ) → stage_of a k ≡ Some was
    → kind_of (launched k st a) q ≡ cond (nat_eq k q) (Some (kind st)) (kind_of a q)
kind_launched k st was a q is =
    ap kind_in (get_changed_at k (in_new_stage st) a.constructions q)
    ∙ launched_in st (nat_eq k q) (map.get a.constructions q)
    (λ same. ap (λ i. is_some (map.get a.constructions i)) (sym (eqb-true k q same)) ∙ stage_there a k was is)

-- ---- after each step

-- what a launch leaves of a construction
abbrev pub launched_kind : Ran → Option Kind
launched_kind ran.Plain = Some talks
launched_kind ran.Piped = Some pipes
launched_kind ran.Failed = None

-- the kind of the construction of q after a step, by the one before
abbrev pub kind_after : ℕ → Event → Answer → Option Kind → Option Kind
kind_after q (Asked s x) (Start k subject) o = cond (nat_eq k q) (Some to_start) o
kind_after q (Launched k r) a o = cond (is_done a && nat_eq k q) (launched_kind r) o
kind_after q (Ended k how payload) a o = cond (is_done a && nat_eq k q) None (cond (is_followed a && nat_eq k q) (Some to_follow) o)
kind_after q e a o = o

-- a refusal leaves how far each construction is
pub refused_kind : (q : ℕ) (e : Event) (error : Errno) (o : Option Kind) → kind_after q e (Refused error) o ≡ o
refused_kind q (Asked s x) error o = refl
refused_kind q _ error o = refl

-- how far each construction is after a step results from the event, its answer and how far it was
pub kinds : (old : World) (now : ℕ) (e : Event) (a : Answer) (new : World) → Effect old now e a new → (q : ℕ)
    → kind_of new.sessions q ≡ kind_after q e a (kind_of old.sessions q)
kinds old now e a new is q = by_case e a new.sessions (in_sessions old now e a new is)
  where
    by_case : (e : Event) (a : Answer) (b : Sessions) → InSessions old new now e a b → kind_of b q ≡ kind_after q e a (kind_of old.sessions q)
    by_case e a b (is_refused y error w free) = sym (refused_kind q y error _)
    by_case e a b (collects s wait outcome is ready) = kind_changed s _ old.sessions q
    by_case e a b (greeted n hello c thread process session user can) = kind_changed (Client n) (with_context c) old.sessions q
    by_case e a b (starts s typ description callout r k subject authority names can fresh drawn) =
        kind_changed s _ (with_construction k authority old.sessions) q ∙ kind_issued k authority old.sessions q
    by_case e a b (waits_for s x k asks can apart) = kind_changed s _ old.sessions q
    by_case e a b (is_set s x setting n plain can) = kind_changed s _ old.sessions q
    by_case e a b (assumed s key can none) = kind_changed s _ old.sessions q
    by_case e a b (concluded s x asker k keys which is own) = kind_announced now k keys (spent k old.sessions) q ∙ kind_spent k old.sessions q
    by_case e a b (runs_plain k st is launches) = kind_launched k (Plain new_session) st old.sessions q is
    by_case e a b (runs_piped k is) = kind_launched k Piped Starting old.sessions q is
    by_case e a b (follows k how payload is free) = kind_launched k Negating Piped old.sessions q is
    by_case e a b (not_run k st condition is launches) = kind_ended now k condition old q
    by_case e a b (ends k how payload st condition is running) = kind_ended now k condition old q
    by_case e a b _ = refl
