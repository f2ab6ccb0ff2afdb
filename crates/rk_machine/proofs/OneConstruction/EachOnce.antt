-- In every run each construction happens once, in order.
use Rattle.rk_machine.proofs.Words.{◌≡◌, ℕ, ◌∙◌, ◌||◌, ◌∷◌, Bool, true, false, cond, refl, ap, sym, not, subst, List, [], list_any, nat_cmp, Option, Some, None}
use Rattle.rk_machine.proofs.Words.{option_map, Negating, serial_named, Event, happened, never, is_start, is_launch, is_negate, since_negate, is_ending}
use Rattle.rk_machine.proofs.Words.{is_completion, OnceFor, EachOnce, Past, Beginning, Run, World, empty_world, Answer, none_some, some_same, some_none, Step}
use Rattle.std.specs.FinMap as map
use Rattle.rk_machine.proofs.Effects.KindsOfStep.{effect}
use Rattle.rk_machine.proofs.Effects.StagesAfter.{Shape, shape, shape_of, as_assumed, as_staged, first_shape, as_spent}
use Rattle.rk_machine.proofs.Effects.DrawnSerials.{is_drawn}
use Rattle.rk_machine.proofs.Effects.SerialsStayDrawn.{keeps_drawn}
use Rattle.rk_machine.proofs.Effects.OfOneConstruction.{Tests, tests, Turn, quiet, started_now, launched_now, negated_now, failed_now, ended_now, completed_now}
use Rattle.rk_machine.proofs.Effects.OfOneConstruction.{assumed_now, IsOwnAsk, Good, Goods, turns}

-- ---- lists

-- what never happened before, and is not this step, never happened
pub never_more : (p : Past → Bool) (s : Past) (before : List Past) → p s ≡ false → never p before → never p (s ∷ before)
never_more p s before h n = (λ i. h i || n i)

happened_now : (p : Past → Bool) (s : Past) (before : List Past) → p s ≡ true → happened p (s ∷ before)
happened_now p s before h = ap (λ b. b || list_any p before) h

or_true : (a : Bool) → (a || true) ≡ true
or_true true = refl
or_true false = refl

happened_more : (p : Past → Bool) (s : Past) (before : List Past) → happened p before → happened p (s ∷ before)
happened_more p s before h = ap (λ b. p s || b) h ∙ or_true (p s)

-- nothing is both false and true
pub clash : (b : Bool) → b ≡ false → b ≡ true → ⊥
clash true f t = cc
clash false f t = cc

-- ---- what the list tells of one construction

-- what happened since then happened
in_all : (q : ℕ) (p : Past → Bool) (past : List Past) → happened p (since_negate q past) → happened p past
in_all q p [] h = absurd (clash _ refl h)
in_all q p (s ∷ before) h = by_test (is_negate q s) (λ g. in_all q p before g) h
  where
    further : (happened p (since_negate q before) → happened p before) → (b : Bool) → (b ≡ true → happened p (s ∷ before))
        → (b || list_any p (since_negate q before)) ≡ true → happened p (s ∷ before)
    further all true here h = here refl
    further all false here h = happened_more p s before (all h)

    by_test : (b : Bool) → (happened p (since_negate q before) → happened p before) → list_any p (cond b [] (s ∷ since_negate q before)) ≡ true
        → happened p (s ∷ before)
    by_test true all h = absurd (clash _ refl h)
    by_test false all h = further all (p s) (λ now. happened_now p s before now) h

-- whether it started, was launched since another handler was to follow, got another handler, was completed, and ended
pub record Seen : Type 0 where
  pub start : Bool
  pub launch : Bool
  pub negate : Bool
  pub completion : Bool
  pub ending : Bool

abbrev unseen : Seen
unseen = record { start = false; launch = false; negate = false; completion = false; ending = false }

-- the same, by the steps
abbrev pub seen : ℕ → List Past → Seen
seen q past = record {
  start = list_any (is_start q) past;
  launch = list_any (is_launch q) (since_negate q past);
  negate = list_any (is_negate q) past;
  completion = list_any (is_completion q) past;
  ending = list_any (is_ending q) past;
}

-- and after one step more
abbrev seen_after : Tests → Seen → Seen
seen_after t p = record {
  start = t.start || p.start;
  launch = cond t.negate false (t.launch || p.launch);
  negate = t.negate || p.negate;
  completion = t.completion || p.completion;
  ending = t.ending || p.ending;
}

launch_more : (q : ℕ) (s : Past) (before : List Past)
    → list_any (is_launch q) (since_negate q (s ∷ before)) ≡ (seen_after (tests q s.event s.answer) (seen q before)).launch
launch_more q s before = by_test (is_negate q s)
  where
    by_test : (b : Bool) → list_any (is_launch q) (cond b [] (s ∷ since_negate q before))
        ≡ cond b false (is_launch q s || list_any (is_launch q) (since_negate q before))
    by_test true = refl
    by_test false = refl

seen_more : (q : ℕ) (s : Past) (before : List Past) → seen q (s ∷ before) ≡ seen_after (tests q s.event s.answer) (seen q before)
seen_more q s before = λ i. record (seen q (s ∷ before)) { launch = launch_more q s before i }

-- ---- what has happened to a construction, by how far it is

-- to one of this shape
pub record Known (x : Shape) (p : Seen) : Type 0 where
  pub started : p.start ≡ true
  pub going : p.ending ≡ false
  pub launched : p.launch ≡ not x.starting
  pub first : x.first ≡ true → p.negate ≡ false
  pub unspent : x.unspent ≡ true → p.completion ≡ false

-- what the list tells matches the shape in the world, and whether the serial was drawn
pub record Matches (p : Seen) (o : Option Shape) (drawn : Bool) : Type 0 where
  pub idle : drawn ≡ false → o ≡ None
  pub fresh : drawn ≡ false → p ≡ unseen
  pub there : (x : Shape) → o ≡ Some x → Known x p

-- the past of the construction of q agrees with how far it is
abbrev pub Tied : ℕ → List Past → Option Shape → Bool → Type 0
Tied q past o drawn = Matches (seen q past) o drawn

-- what a step may be, after what was seen
record Allowed (t : Tests) (p : Seen) : Type 0 where
  start : t.start ≡ true → p.start ≡ false
  launch : t.launch ≡ true → (p.start ≡ true) × (p.launch ≡ false) × (p.ending ≡ false)
  negate : t.negate ≡ true → (p.launch ≡ true) × (p.negate ≡ false) × (p.completion ≡ false) × (p.ending ≡ false)
  completion : t.completion ≡ true → (p.launch ≡ true) × (p.completion ≡ false) × (p.ending ≡ false)
  ending : t.ending ≡ true → ((seen_after t p).launch ≡ true) × (p.ending ≡ false)

no : {A : Type 0} → false ≡ true → A
no e = absurd (clash false refl e)

-- a construction that is there has begun, and one that was ended has, too
matched : (p : Seen) (x : Shape) (dn : Bool) → (dn ≡ false → ⊥) → Known x p → Matches p (Some x) dn
matched p x dn begun known = record {
  idle = λ e. absurd (begun e);
  fresh = λ e. absurd (begun e);
  there = λ y at. subst (λ (z : Shape). Known z p) (some_same at) known;
}

over : (p : Seen) (dn : Bool) → (dn ≡ false → ⊥) → Matches p None dn
over p dn begun = record { idle = λ e. refl; fresh = λ e. absurd (begun e); there = λ y at. absurd (none_some at) }

module _ (q : ℕ) (d dn : Bool) (own : Type 0) (less : dn ≡ false → d ≡ false) (p : Seen) where
  begun : (x : Shape) → Matches p (Some x) d → dn ≡ false → ⊥
  begun x h e = some_none (h.idle (less e))

  -- each turn is allowed, and what is seen then matches the shape that it leaves
  once : (t : Tests) (o n : Option Shape) → Turn q d dn own t o n → Good q o → Matches p o d → Allowed t p × Matches (seen_after t p) n dn
  once t o n quiet good h = (
    record { start = no; launch = no; negate = no; completion = no; ending = no },
    record { idle = λ e. h.idle (less e); fresh = λ e. h.fresh (less e); there = h.there },
  )
  once t o n (started_now fresh after) good h =
      let f : p ≡ unseen = h.fresh fresh in (
        record { start = λ _. ap (λ (z : Seen). z.start) f; launch = no; negate = no; completion = no; ending = no },
        matched _ first_shape dn (λ e. clash _ e after) (record {
          started = refl;
          going = ap (λ (z : Seen). z.ending) f;
          launched = ap (λ (z : Seen). z.launch) f;
          first = λ _. ap (λ (z : Seen). z.negate) f;
          unspent = λ _. ap (λ (z : Seen). z.completion) f;
        }),
      )
  once t o n (launched_now x st waits runs firsts) good h =
      let k = h.there x refl in (
        record { start = no; launch = λ _. (k.started, k.launched ∙ ap not waits, k.going); negate = no; completion = no; ending = no },
        matched _ (as_staged st x) dn (begun x h)
            (record { started = k.started; going = k.going; launched = sym (ap not runs); first = λ e. k.first (firsts e); unspent = k.unspent }),
      )
  once t o n (negated_now x runs firsts free) good h =
      let k = h.there x refl in (
        record {
          start = no;
          launch = no;
          negate = λ _. (k.launched ∙ ap not runs, k.first firsts, k.unspent free, k.going);
          completion = no;
          ending = no;
        },
        matched _ (as_staged Negating x) dn (begun x h) (record { started = k.started; going = k.going; launched = refl; first = no; unspent = k.unspent }),
      )
  once t o n (failed_now x waits) good h =
      let k = h.there x refl in (
        record {
          start = no;
          launch = λ _. (k.started, k.launched ∙ ap not waits, k.going);
          negate = no;
          completion = no;
          ending = λ _. (refl, k.going);
        },
        over _ dn (begun x h),
      )
  once t o n (ended_now x runs) good h =
      let k = h.there x refl in (
        record { start = no; launch = no; negate = no; completion = no; ending = λ _. (k.launched ∙ ap not runs, k.going) },
        over _ dn (begun x h),
      )
  once t o n (completed_now x asks own) good h =
      let k = h.there x refl in
      let g = good x q refl own in (
        record { start = no; launch = no; negate = no; completion = λ _. (k.launched ∙ ap not g.2, k.unspent g.1, k.going); ending = no },
        matched _ (as_spent x) dn (begun x h)
            (record { started = k.started; going = k.going; launched = k.launched; first = k.first; unspent = no }),
      )
  once t o n (assumed_now x key runs mine) good h =
      let k = h.there x refl in (
        record { start = no; launch = no; negate = no; completion = no; ending = no },
        matched _ (as_assumed (serial_named key) x) dn (begun x h)
            (record { started = k.started; going = k.going; launched = k.launched; first = k.first; unspent = k.unspent }),
      )

-- what is allowed is what the law says
once_for : (q : ℕ) (s : Past) (before : List Past) → Allowed (tests q s.event s.answer) (seen q before) → OnceFor q s before
once_for q s before may = record {
  start = may.start;
  launch = may.launch;
  negate = λ h. let n = may.negate h in (in_all q (is_launch q) before n.0, n.1, n.2, n.3);
  completion = may.completion;
  ending = λ h. let e = may.ending h in (launch_more q s before ∙ e.0, e.1);
}

-- ---- what a turn leaves is good

good_after : (q : ℕ) (d dn : Bool) (own : Type 0) (t : Tests) (o n : Option Shape) → Turn q d dn own t o n → Good q o → Good q n
good_after q d dn own t o n quiet g y k is has = g y k is has
good_after q d dn own t o n (failed_now x waits) g y k is has = absurd (none_some is)
good_after q d dn own t o n (ended_now x runs) g y k is has = absurd (none_some is)
good_after q d dn own t o n (assumed_now x key runs mine) g y k is has =
    let e = some_same is in
    let one = mine k (ap (λ (z : Shape). z.assumed) e ∙ has) in
    (one.0, sym (ap (λ (z : Shape). z.unspent) e) ∙ one.1, sym (ap (λ (z : Shape). z.starting) e) ∙ runs)
good_after q d dn own t o n _ g y k is has = absurd (none_some (ap (λ (z : Shape). z.assumed) (some_same is) ∙ has))

-- what handlers have assumed stays their own
pub goods_after : (old : World) (now : ℕ) (e : Event) (a : Answer) (new : World) → Step old now e a new → Goods old.sessions → Goods new.sessions
goods_after old now e a new step good q =
    good_after q _ _ _ _ _ _ (turns old now e a new (effect old now e a new step) good q) (good q)

-- ---- every run

-- what is known of a world and its past: that of each construction
abbrev pub Knows : World → List Past → Type 0
Knows w past = Goods w.sessions × ((q : ℕ) → Tied q past (shape_of w.sessions q) (is_drawn w q))

knows_nothing : (from : Beginning) → Knows (empty_world from.negative from.first from.stride) []
knows_nothing from =
    let none : (q : ℕ) → shape_of (empty_world from.negative from.first from.stride).sessions q ≡ None =
    λ q. ap (option_map shape) (map.get-empty nat_cmp q) in (
      λ q x k is own. absurd (none_some (sym (none q) ∙ is)),
      λ q. record { idle = λ e. none q; fresh = λ e. refl; there = λ x is. absurd (none_some (sym (none q) ∙ is)) },
    )

step_knows : (old : World) (s : Past) (new : World) (before : List Past) → Step old s.now s.event s.answer new → Knows old before
    → ((q : ℕ) → OnceFor q s before) × Knows new (s ∷ before)
step_knows old s new before step known =
    let is = effect old s.now s.event s.answer new step in
    let turn : (q : ℕ) → Turn q (is_drawn old q) (is_drawn new q) (IsOwnAsk q s.event) (tests q s.event s.answer) (shape_of old.sessions q)
    (shape_of new.sessions q) = turns old s.now s.event s.answer new is known.0 in
    let done : (q : ℕ) → Allowed (tests q s.event s.answer) (seen q before)
    × Matches (seen_after (tests q s.event s.answer) (seen q before)) (shape_of new.sessions q) (is_drawn new q) =
    λ q. once q (is_drawn old q) (is_drawn new q) (IsOwnAsk q s.event) (keeps_drawn old s.now s.event s.answer new is q) (seen q before) _ _ _ (turn q)
    (known.0 q) (known.1 q) in (
      λ q. once_for q s before (done q).0,
      (
        λ q. good_after q _ _ _ _ _ _ (turn q) (known.0 q),
        λ q. subst (λ (p : Seen). Matches p (shape_of new.sessions q) (is_drawn new q)) (sym (seen_more q s before)) (done q).1,
      ),
    )

-- what the machine knows of each construction is what happened
pub knows : (from : Beginning) (past : List Past) (w : World) → Run from past w → Knows w past
knows from [] w run = subst (λ v. Knows v []) (sym run) (knows_nothing from)
knows from (s ∷ before) w run = (step_knows run.0 s w before run.2 (knows from before run.0 run.1)).1

-- each construction happens once, in order
pub each_once : (from : Beginning) (past : List Past) (w : World) → Run from past w → EachOnce past
each_once from [] w run = tt
each_once from (s ∷ before) w run = ((step_knows run.0 s w before run.2 (knows from before run.0 run.1)).0, each_once from before run.0 run.1)
