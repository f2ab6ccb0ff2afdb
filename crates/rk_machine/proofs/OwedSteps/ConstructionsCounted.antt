-- How many constructions there are, and how many ends they are owed, after a step.
use Rattle.rk_machine.proofs.Words.{◌≡◌, ℕ, ◌∙◌, ◌∷◌, ◌+◌, ◌≤◌, Bool, true, false, cond, refl, ap, sym, arith, subst, List, [], length, option_map_or, ◌==◌}
use Rattle.rk_machine.proofs.Words.{Option, Some, None, nat_eq, is_some, eqb-true, eq-eqb, SessionId, Client, Handler, Subject, Number, Sessions, is_to_launch}
use Rattle.rk_machine.proofs.Words.{Construction, Stage, Starting, Plain, Piped, Negating, done, Event, is_done, same_session, is_followed, whose}
use Rattle.rk_machine.proofs.Words.{constructions, begun, closed, ends_owed, ends_owed_to, construction_ends, stage_ends, start_ends, takes, told_as, is_owed}
use Rattle.rk_machine.proofs.Words.{weight, weight_in, World, Answer, Done, Start, Waiting, Refused, Negate, Asked, Launched, Ended, Collect, Gone, How}
use Rattle.rk_machine.proofs.Words.{true_false, and_false}
use Rattle.std.specs.FinMap as map
use Rattle.rk_machine.specs.declared.event.Ran.TheVariants as ran
use Rattle.rk_message.specs.declared.ask.AskOf.TheVariants as ask
use Rattle.rk_machine.proofs.OwedSteps.WeightsOfMaps.{but_one, all_same}
use Rattle.rk_machine.proofs.Effects.StagesByStep.{Kind, to_start, talks, pipes, to_follow, kind, kind_of, kind_in, kind_after, launched_kind, stage_kind}
use Rattle.rk_machine.proofs.Effects.StagesByStep.{kinds}
use Rattle.rk_machine.proofs.Effects.UndrawnIsIdle.{IsIdle, IsStart, start_is, idle_fresh}
use Rattle.rk_machine.proofs.OwedSteps.OwedByStep.{other_key, NotOwed}
use Rattle.rk_machine.proofs.Effects.KindsOfStep.{Effect}
use Rattle.rk_machine.proofs.Effects.OfSessions.{InSessions, in_sessions, is_refused, waits_on, collects, goes, starts, answered, is_set, runs_plain}
use Rattle.rk_machine.proofs.Effects.OfSessions.{runs_piped, follows, not_run, ends}

-- ---- sums over the constructions, by how far each is

-- the answer starts a construction
abbrev is_begun : Answer → Bool
is_begun (Start k subject) = true
is_begun _ = false

-- how far the construction is whose handler a session is; None for a client
abbrev own_kind : Sessions → SessionId → Option Kind
own_kind a (Client n) = None
own_kind a (Handler q) = kind_of a q

-- how far constructions are changes for the session s alone, and where one starts, for its key
data KindsChange (s : SessionId) (a b : Sessions) (starting : Bool) : Type 0 where
  of_none : starting ≡ false → ((q : ℕ) → same_session s (Handler q) ≡ false → kind_of b q ≡ kind_of a q) → KindsChange s a b starting
  of_start : (k : ℕ) → starting ≡ true → same_session s (Handler k) ≡ false → kind_of a k ≡ None → kind_of b k ≡ Some to_start
      → ((q : ℕ) → nat_eq k q ≡ false → kind_of b q ≡ kind_of a q) → KindsChange s a b starting

turned : (j k : ℕ) → nat_eq j k ≡ false → nat_eq k j ≡ false
turned j k h = by_test (nat_eq k j) refl
  where
    by_test : (b : Bool) → nat_eq k j ≡ b → b ≡ false
    by_test true e = absurd (true_false (sym (eq-eqb j k (sym (eqb-true k j e))) ∙ h))
    by_test false e = refl

-- of what a construction weighs by how far it is
module _ (f : Construction → ℕ) (g : Option Kind → ℕ) (by_kind : (o : Option Construction) → option_map_or f o 0 ≡ g (kind_in o)) (none : g None ≡ 0) where
  weighs : (a : Sessions) (q : ℕ) → option_map_or f (map.get a.constructions q) 0 ≡ g (kind_of a q)
  weighs a q = by_kind (map.get a.constructions q)

  kept : (a b : Sessions) (q : ℕ) → kind_of b q ≡ kind_of a q
      → option_map_or f (map.get b.constructions q) 0 ≡ option_map_or f (map.get a.constructions q) 0
  kept a b q h = weighs b q ∙ ap g h ∙ sym (weighs a q)

  -- the sum changes by what the session weighs, and by a construction that starts
  sum_kinds : (s : SessionId) (a b : Sessions) (starting : Bool) → KindsChange s a b starting
      → weight f b.constructions + g (own_kind a s) ≡ weight f a.constructions + g (own_kind b s) + cond starting (g (Some to_start)) 0
  sum_kinds (Client n) a b starting (of_none is same) =
      let rest = all_same f b.constructions a.constructions (λ q. kept a b q (same q refl)) in
      let no_more : cond starting (g (Some to_start)) 0 ≡ 0 = ap (λ t. cond t (g (Some to_start)) 0) is in
      omega arith
  sum_kinds (Handler j) a b starting (of_none is same) =
      let one = but_one f b.constructions a.constructions j (λ q other. kept a b q (same q other)) in
      let was = weighs a j in
      let left = weighs b j in
      let no_more : cond starting (g (Some to_start)) 0 ≡ 0 = ap (λ t. cond t (g (Some to_start)) 0) is in
      omega arith
  sum_kinds (Client n) a b starting (of_start k is apart before after same) =
      let one = but_one f b.constructions a.constructions k (λ q other. kept a b q (same q other)) in
      let was = weighs a k ∙ ap g before ∙ none in
      let left = weighs b k ∙ ap g after in
      let more : cond starting (g (Some to_start)) 0 ≡ g (Some to_start) = ap (λ t. cond t (g (Some to_start)) 0) is in
      omega arith
  sum_kinds (Handler j) a b starting (of_start k is apart before after same) =
      let one = but_one f b.constructions a.constructions k (λ q other. kept a b q (same q other)) in
      let was = weighs a k ∙ ap g before ∙ none in
      let left = weighs b k ∙ ap g after in
      let still : g (kind_of b j) ≡ g (kind_of a j) = ap g (same j (turned j k apart)) in
      let more : cond starting (g (Some to_start)) 0 ≡ g (Some to_start) = ap (λ t. cond t (g (Some to_start)) 0) is in
      omega arith

-- a start is of another key than the asker's
starts_apart : (old : World) (e : Event) (new : World) (k : ℕ) (subject : Subject) → IsIdle old → IsStart old e new k subject
    → same_session (whose e) (Handler k) ≡ false
starts_apart old e new k subject idle start =
    ap (λ y. same_session (whose y) (Handler k)) start.asks ∙ other_key old start.who k (idle_fresh old idle k start.fresh) start.there

-- a step leaves what it does not concern
off : (e : Event) (a : Answer) (q : ℕ) (o : Option Kind) → is_begun a ≡ false → same_session (whose e) (Handler q) ≡ false → kind_after q e a o ≡ o
off (Asked s x) (Start k subject) q o none other = absurd (true_false none)
off (Launched k r) a q o none other = ap (λ b. cond b (launched_kind r) o) (and_false (is_done a) (nat_eq k q) other)
off (Ended k how payload) a q o none other =
    λ i. cond (and_false (is_done a) (nat_eq k q) other i) None (cond (and_false (is_followed a) (nat_eq k q) other i) (Some to_follow) o)
off _ a q o none other = refl

kinds_change : (old : World) (now : ℕ) (e : Event) (a : Answer) (new : World) → Effect old now e a new → IsIdle old
    → KindsChange (whose e) old.sessions new.sessions (is_begun a)
kinds_change old now e a new found idle = by_answer a refl
  where
    is : (q : ℕ) → kind_of new.sessions q ≡ kind_after q e a (kind_of old.sessions q)
    is = kinds old now e a new found

    rest : is_begun a ≡ false → KindsChange (whose e) old.sessions new.sessions (is_begun a)
    rest none = of_none none (λ q other. is q ∙ off e a q (kind_of old.sessions q) none other)

    started : (k : ℕ) (subject : Subject) → a ≡ Start k subject → KindsChange (whose e) old.sessions new.sessions (is_begun a)
    started k subject ra =
        let start = start_is old now e a new found k subject ra in
        let after : (q : ℕ) → kind_of new.sessions q ≡ cond (nat_eq k q) (Some to_start) (kind_of old.sessions q) =
        λ q. is q ∙ (λ i. kind_after q (start.asks i) (ra i) (kind_of old.sessions q)) in
        of_start k (ap is_begun ra) (starts_apart old e new k subject idle start) (idle k start.fresh)
        (after k ∙ ap (λ b. cond b (Some to_start) (kind_of old.sessions k)) (eq-eqb k k refl))
        (λ q other. after q ∙ ap (λ b. cond b (Some to_start) (kind_of old.sessions q)) other)

    by_answer : (b : Answer) → a ≡ b → KindsChange (whose e) old.sessions new.sessions (is_begun a)
    by_answer (Start k subject) ra = started k subject ra
    by_answer (Done r) ra = rest (ap is_begun ra)
    by_answer (Waiting k) ra = rest (ap is_begun ra)
    by_answer (Negate k) ra = rest (ap is_begun ra)
    by_answer (Refused f) ra = rest (ap is_begun ra)

-- ---- how many there are, and how many ends they are owed

-- each construction weighs 1
abbrev pub one_each : Construction → ℕ
one_each c = 1

length_weight : (es : List (ℕ × Construction)) → length es ≡ weight_in one_each es
length_weight [] = refl
length_weight (e ∷ es) = omega (arith, length_weight es)

-- how many there are is what they weigh together
pub counted : (w : World) → constructions w ≡ weight one_each w.sessions.constructions
counted w = map.len-entries w.sessions.constructions ∙ length_weight (map.entries w.sessions.constructions)

-- the same, by how far one is
abbrev pub ones : Option Kind → ℕ
ones o = cond (is_some o) 1 0

-- 1 for a construction that is there, and else 0
pub one_in : (o : Option Construction) → option_map_or one_each o 0 ≡ ones (kind_in o)
one_in None = refl
one_in (Some c) = refl

-- how many ends are owed to a construction, by how far it is
abbrev kind_ends : Option Kind → ℕ
kind_ends None = 0
kind_ends (Some to_start) = 2
kind_ends (Some talks) = 1
kind_ends (Some pipes) = 2
kind_ends (Some to_follow) = 1

ends_in : (o : Option Construction) → option_map_or construction_ends o 0 ≡ kind_ends (kind_in o)
ends_in None = refl
ends_in (Some c) = by_stage c.stage
  where
    by_stage : (st : Stage) → stage_ends st ≡ kind_ends (Some (kind st))
    by_stage Starting = refl
    by_stage (Plain s) = refl
    by_stage Piped = refl
    by_stage Negating = refl

own_ends : (w : World) (s : SessionId) → ends_owed_to w s ≡ kind_ends (own_kind w.sessions s)
own_ends w (Client n) = refl
own_ends w (Handler q) = ends_in (map.get w.sessions.constructions q)

-- ---- the construction that an event is about

-- one that the event ends is one less, and an end that it takes was owed
record OwnChange (old : World) (e : Event) (a : Answer) (o n : Option Kind) : Type 0 where
  count : closed e a + ones n ≡ ones o
  taken : kind_ends n + cond (is_owed old e) (takes e) 0 ≤ kind_ends o

zero_either : (b : Bool) → ◌≡◌ {A = ℕ} (cond b 0 0) 0
zero_either true = refl
zero_either false = refl

at_most : (b : Bool) (n : ℕ) → cond b n 0 ≤ n
at_most true n = omega arith
at_most false n = omega arith

module _ (old : World) (e : Event) (a : Answer) where
  unchanged : (o n : Option Kind) → n ≡ o → closed e a ≡ 0 → cond (is_owed old e) (takes e) 0 ≡ 0 → OwnChange old e a o n
  unchanged o n same closes owed = let one = ap ones same in let two = ap kind_ends same in record { count = omega arith; taken = omega arith }

  -- the same of what equals them
  as_was : (o n p m : Option Kind) → o ≡ p → n ≡ m → OwnChange old e a p m → OwnChange old e a o n
  as_was o n p m was is h = subst (λ (x : Option Kind). OwnChange old e a x n) (sym was) (subst (OwnChange old e a p) (sym is) h)

-- a handler that is to be started is started, or is not
module _ (old : World) (k : ℕ) where
  plain_run : (st : Stage) → is_to_launch (Some st) ≡ true → OwnChange old (Launched k ran.Plain) done (Some (kind st)) (Some talks)
  plain_run Starting h = let none = zero_either (is_owed old (Launched k ran.Plain)) in record { count = refl; taken = omega arith }
  plain_run (Plain s) h = absurd (true_false (sym h))
  plain_run Piped h = absurd (true_false (sym h))
  plain_run Negating h = let none = zero_either (is_owed old (Launched k ran.Plain)) in record { count = refl; taken = omega arith }

  piped_run : OwnChange old (Launched k ran.Piped) done (Some to_start) (Some pipes)
  piped_run = let none = zero_either (is_owed old (Launched k ran.Piped)) in record { count = refl; taken = omega arith }

  unstarted : (x : Kind) → OwnChange old (Launched k ran.Failed) done (Some x) None
  unstarted x = let none = zero_either (is_owed old (Launched k ran.Failed)) in record { count = refl; taken = omega arith }

  module _ (how : How) (payload : Option (List ℕ)) where
    followed : OwnChange old (Ended k how payload) (Negate k) (Some pipes) (Some to_follow)
    followed = let one = at_most (is_owed old (Ended k how payload)) 1 in record { count = refl; taken = omega arith }

    over : (x : Kind) → OwnChange old (Ended k how payload) done (Some x) None
    over x = let one = at_most (is_owed old (Ended k how payload)) 1 in let some = some_ends x in record { count = refl; taken = omega arith }
      where
        some_ends : (x : Kind) → 1 ≤ kind_ends (Some x)
        some_ends to_start = omega arith
        some_ends talks = omega arith
        some_ends pipes = omega arith
        some_ends to_follow = omega arith

own_same : (a b : Sessions) → ((q : ℕ) → kind_of b q ≡ kind_of a q) → (s : SessionId) → own_kind b s ≡ own_kind a s
own_same a b same (Client n) = refl
own_same a b same (Handler q) = same q

own_apart : (a b : Sessions) (k : ℕ) (s : SessionId) → same_session s (Handler k) ≡ false
    → ((q : ℕ) → kind_of b q ≡ cond (nat_eq k q) (Some to_start) (kind_of a q)) → own_kind b s ≡ own_kind a s
own_apart a b k (Client n) apart is = refl
own_apart a b k (Handler j) apart is = is j ∙ ap (λ t. cond t (Some to_start) (kind_of a j)) (turned j k apart)

own_change : (old new : World) (now : ℕ) (e : Event) (a : Answer) (b : Sessions) → InSessions old new now e a b → IsIdle old → NotOwed old e a
    → ((q : ℕ) → kind_of b q ≡ kind_after q e a (kind_of old.sessions q)) → OwnChange old e a (own_kind old.sessions (whose e)) (own_kind b (whose e))
own_change old new now e a b (is_refused y error w free) idle not_owed is =
    unchanged old y (Refused error) _ _ refl refl (ap (λ t. cond t (takes y) 0) (not_owed error refl free))
own_change old new now e a b (waits_on s wait found ready) idle not_owed is =
    unchanged old (Collect s) (Waiting wait.key) _ _ refl refl (zero_either (is_owed old (Collect s)))
own_change old new now e a b (collects s wait outcome found ready) idle not_owed is =
    unchanged old (Collect s) (told_as outcome) _ _ (own_same old.sessions b is s) (zero_either (is_done (told_as outcome)))
    (zero_either (is_owed old (Collect s)))
own_change old new now e a b (goes n there) idle not_owed is =
    unchanged old (Gone (Client n)) done _ _ refl refl (zero_either (is_owed old (Gone (Client n))))
own_change old new now e a b (starts s typ description callout r k subject authority names can fresh drawn) idle not_owed is =
    unchanged old (Asked s (ask.Request typ description (Some callout) r)) (Start k subject) _ _
    (own_apart old.sessions b k s (other_key old s k (idle_fresh old idle k fresh.unused) can.there) is) refl refl
own_change old new now e a b (answered s x n plain) idle not_owed is = unchanged old (Asked s x) (Done (Number n)) _ _ refl (zero_either (n == 0)) refl
own_change old new now e a b (is_set s x setting n plain can) idle not_owed is =
    unchanged old (Asked s x) (Done (Number n)) _ _ (own_same old.sessions b is s) (zero_either (n == 0)) refl
own_change old new now e a b (runs_plain k st found launches) idle not_owed is =
    as_was old e a (kind_of old.sessions k) _ _ _ (stage_kind old.sessions k st found)
    (is k ∙ ap (λ t. cond t (Some talks) (kind_of old.sessions k)) (eq-eqb k k refl)) (plain_run old k st launches)
own_change old new now e a b (runs_piped k found) idle not_owed is =
    as_was old e a (kind_of old.sessions k) _ _ _ (stage_kind old.sessions k Starting found)
    (is k ∙ ap (λ t. cond t (Some pipes) (kind_of old.sessions k)) (eq-eqb k k refl)) (piped_run old k)
own_change old new now e a b (follows k how payload found free) idle not_owed is =
    as_was old e a (kind_of old.sessions k) _ _ _ (stage_kind old.sessions k Piped found)
    (is k ∙ ap (λ t. cond t (Some to_follow) (kind_of old.sessions k)) (eq-eqb k k refl)) (followed old k how payload)
own_change old new now e a b (not_run k st condition found launches) idle not_owed is =
    as_was old e a (kind_of old.sessions k) _ _ _ (stage_kind old.sessions k st found)
    (is k ∙ ap (λ t. cond t None (kind_of old.sessions k)) (eq-eqb k k refl)) (unstarted old k (kind st))
own_change old new now e a b (ends k how payload st condition found running) idle not_owed is =
    as_was old e a (kind_of old.sessions k) _ _ _ (stage_kind old.sessions k st found)
    (is k ∙ ap (λ t. cond t None (kind_of old.sessions k)) (eq-eqb k k refl)) (over old k how payload (kind st))
own_change old new now e a b _ idle not_owed is = unchanged old e a _ _ (own_same old.sessions b is (whose e)) refl refl

-- ---- each step

begun_is : (a : Answer) → ◌≡◌ {A = ℕ} (cond (is_begun a) 1 0) (begun a)
begun_is (Start k subject) = refl
begun_is _ = refl

start_ends_is : (a : Answer) → ◌≡◌ {A = ℕ} (cond (is_begun a) 2 0) (start_ends a)
start_ends_is (Start k subject) = refl
start_ends_is _ = refl

module _ (old : World) (now : ℕ) (e : Event) (a : Answer) (new : World) (found : Effect old now e a new) (idle : IsIdle old) (not_owed : NotOwed old e a) where
  own : OwnChange old e a (own_kind old.sessions (whose e)) (own_kind new.sessions (whose e))
  own = own_change old new now e a new.sessions (in_sessions old now e a new found) idle not_owed (kinds old now e a new found)

  -- a start is one construction more, and an ending one less
  pub count_step : constructions new + closed e a ≡ constructions old + begun a
  count_step =
      let sums = sum_kinds one_each ones one_in refl (whose e) old.sessions new.sessions (is_begun a) (kinds_change old now e a new found idle) in
      let one = own.count in
      let more : cond (is_begun a) (ones (Some to_start)) 0 ≡ begun a = begun_is a in
      omega (arith, counted old, counted new)

  -- ends are owed as places are
  pub ends_balance : ends_owed new + ends_owed_to old (whose e) ≡ ends_owed old + ends_owed_to new (whose e) + start_ends a
  ends_balance =
      let sums = sum_kinds construction_ends kind_ends ends_in refl (whose e) old.sessions new.sessions (is_begun a)
      (kinds_change old now e a new found idle) in
      let more : cond (is_begun a) (kind_ends (Some to_start)) 0 ≡ start_ends a = start_ends_is a in
      omega (arith, own_ends old (whose e), own_ends new (whose e))

  -- and an owed one takes one of those of its construction
  pub ends_taken : ends_owed_to new (whose e) + cond (is_owed old e) (takes e) 0 ≤ ends_owed_to old (whose e)
  ends_taken = omega (arith, own.taken, own_ends old (whose e), own_ends new (whose e))
