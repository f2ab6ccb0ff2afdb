-- What a step is to one construction.
use Rattle.rk_machine.proofs.Words.{◌≡◌, ℕ, ◌∙◌, ◌&&◌, ◌∷◌, Bool, true, false, cond, refl, ap, sym, not, subst, [], option_map_or, nat_cmp, ℤ, ◌==◌, Option}
use Rattle.rk_machine.proofs.Words.{Some, None, nat_eq, is_some, option_map, option_and_then, is_none, pos, negsuc, eqb-true, eq-eqb, SessionId, Client}
use Rattle.rk_machine.proofs.Words.{Handler, Ask, Number, Bytes, Condition, Key, spent, with_construction, with_context, with_wait, with_setting, new_wait}
use Rattle.rk_machine.proofs.Words.{Sessions, unspent, new_session, session_of, stage_of, is_to_launch, assumed_authority, handler_in, Authority, Construction}
use Rattle.rk_machine.proofs.Words.{Stage, Starting, Plain, Piped, Negating, Outcome, Found, Failed, Session, refused_if, done, first_of, Asker, asker_of}
use Rattle.rk_machine.proofs.Words.{serial_named, client_asker, assumed_asker, handler_asker, assume_refusal, announced, sessions_ended, keys_ended, ended}
use Rattle.rk_machine.proofs.Words.{Event, is_done, same_session, completes, starts_by, negates_by, launches, ends, completes_by, assumed_at, told_as, World}
use Rattle.rk_machine.proofs.Words.{drawn, Answer, Done, Waiting, Refused, Asked, Collect, true_false, some_same, not_not, if_none, first_none, and_false}
use Rattle.rk_machine.proofs.Words.{some_is}
use Rattle.std.specs.FinMap as map
use Rattle.rk_names.specs.declared.errors.Errno.TheVariants as errno
use Rattle.rk_message.specs.declared.ask.AskOf.TheVariants as ask
use Rattle.rk_machine.proofs.Effects.DrawnSerials.{is_drawn}
use Rattle.rk_machine.proofs.Effects.StagesAfter.{Shape, is_first, shape, shape_of, first_shape, as_spent, as_staged, as_assumed, shape_session, shape_told}
use Rattle.rk_machine.proofs.Effects.StagesAfter.{shape_assumed, shape_spent, shape_launched, shape_removed, shape_issued}
use Rattle.rk_machine.proofs.Effects.KindsOfStep.{Effect}
use Rattle.rk_machine.proofs.Effects.OfSessions.{InSessions, in_sessions, is_refused, collects, greeted, starts, waits_for, answered, told, is_set, assumed}
use Rattle.rk_machine.proofs.Effects.OfSessions.{concluded, runs_plain, runs_piped, follows, not_run, ends as end_of}
use Rattle.rk_machine.proofs.Effects.LeftByOutcomes.{left_announced}

-- ---- what the laws test of a step

-- what the laws ask of a step, for one construction
pub record Tests : Type 0 where
  pub start : Bool
  pub negate : Bool
  pub launch : Bool
  pub ending : Bool
  pub completion : Bool
  pub assumed : Option ℤ  -- what the handler named in an ASSUME that was answered Number 0

-- the answers to that, of a step and this key
abbrev pub tests : ℕ → Event → Answer → Tests
tests q e a =
    record {
      start = starts_by a q;
      negate = negates_by a q;
      launch = is_done a && launches e q;
      ending = is_done a && ends e q;
      completion = is_done a
          && completes_by e q;
      assumed = assumed_at q e a;
    }

-- a step that is none of these to the construction
abbrev pub none_of : Tests
none_of = record { start = false; negate = false; launch = false; ending = false; completion = false; assumed = None }

and_true : (a : Bool) → (a && true) ≡ a
and_true true = refl
and_true false = refl

not_assumed : (q : ℕ) (s : SessionId) (x : Ask) (a : Answer) → ((key : ℤ) → ¬ (x ≡ ask.Assume key)) → assumed_at q (Asked s x) a ≡ None
not_assumed q s (ask.Assume key) a h = absurd (h key refl)
not_assumed q s _ a h = refl

-- nothing is assumed by what is not answered Number 0
undone : (q : ℕ) (e : Event) (a : Answer) → is_done a ≡ false → assumed_at q e a ≡ None
undone q (Asked s (ask.Assume key)) a h = ap (λ b. cond b (Some key) None) (and_false (same_session s (Handler q)) (is_done a) h)
undone q _ a h = refl

-- nor is anything done by what completes and assumes nothing
nothing_done : (done completes : Bool) (m : Option ℤ) → completes ≡ false → m ≡ None
    → ◌≡◌ {A = Tests} (record {
      start = false;
      negate = false;
      launch = done && false;
      ending = done && false;
      completion = done && completes;
      assumed = m;
    }) none_of
nothing_done true completes m h none = λ i. record none_of { completion = h i; assumed = none i }
nothing_done false completes m h none = λ i. record none_of { assumed = none i }

told_nothing : (q : ℕ) (s : SessionId) (o : Outcome) → tests q (Collect s) (told_as o) ≡ none_of
told_nothing q s (Found k) = nothing_done (k == 0) false None refl refl
told_nothing q s (Failed error) = refl

-- ---- a turn of one construction

-- what a step is to the construction of q, in few cases: what the laws test of it, and the construction's shape before and after
pub data Turn (q : ℕ) (drawn drawn_after : Bool) (its_own : Type 0) : Tests → Option Shape → Option Shape → Type 0 where
  quiet : {o : Option Shape} → Turn q drawn drawn_after its_own none_of o o
  started_now : {o : Option Shape} → drawn ≡ false → drawn_after ≡ true → Turn q drawn drawn_after its_own (record none_of { start = true }) o (Some first_shape)
  launched_now : (x : Shape) (st : Stage) → x.starting ≡ true → is_to_launch (Some st) ≡ false → (is_first st ≡ true → x.first ≡ true)
      → Turn q drawn drawn_after its_own (record none_of { launch = true }) (Some x) (Some (as_staged st x))
  negated_now : (x : Shape) → x.starting ≡ false → x.first ≡ true → x.unspent ≡ true
      → Turn q drawn drawn_after its_own (record none_of { negate = true }) (Some x) (Some (as_staged Negating x))
  failed_now : (x : Shape) → x.starting ≡ true → Turn q drawn drawn_after its_own (record none_of { launch = true; ending = true }) (Some x) None
  ended_now : (x : Shape) → x.starting ≡ false → Turn q drawn drawn_after its_own (record none_of { ending = true }) (Some x) None
  completed_now : (x : Shape) → its_own → x.assumed ≡ Some q
      → Turn q drawn drawn_after its_own (record none_of { completion = true }) (Some x) (Some (as_spent x))
  assumed_now : (x : Shape) (key : ℤ) → x.starting ≡ false → ((k : ℕ) → serial_named key ≡ Some k → (k ≡ q) × (x.unspent ≡ true))
      → Turn q drawn drawn_after its_own (record none_of { assumed = Some key }) (Some x) (Some (as_assumed (serial_named key) x))

-- its own handler asks
abbrev pub IsOwnAsk : ℕ → Event → Type 0
IsOwnAsk q e = (a : Ask) × (e ≡ Asked (Handler q) a)

-- a handler's assumed key is its own, which is unspent, and the handler runs
abbrev pub Good : ℕ → Option Shape → Type 0
Good q o = (x : Shape) (k : ℕ) → o ≡ Some x → x.assumed ≡ Some k → (k ≡ q) × (x.unspent ≡ true) × (x.starting ≡ false)

-- the same, of all constructions
abbrev pub Goods : Sessions → Type 0
Goods a = (q : ℕ) → Good q (shape_of a q)

-- ---- the parts

abbrev at : World → ℕ → Option Shape
at w q = shape_of w.sessions q

-- with one key in it, a step is a turn of that key and quiet for the others
pub by_key : (k q : ℕ) (P : Type 0) → (k ≡ q → nat_eq k q ≡ true → P) → (nat_eq k q ≡ false → P) → P
by_key k q P here other = elim (nat_eq k q) as (λ b. nat_eq k q ≡ b → P) [ true ↦ λ e. here (eqb-true k q e) e | false ↦ λ e. other e ] refl

some_of : (a : Sessions) (k : ℕ) (st : Stage) → stage_of a k ≡ Some st
    → (x : Shape) × (shape_of a k ≡ Some x) × (x.starting ≡ is_to_launch (Some st)) × (x.first ≡ is_first st)
some_of a k st h = found (map.get a.constructions k) refl h
  where
    firsts : Option Stage → Bool
    firsts None = false
    firsts (Some x) = is_first x

    found : (o : Option Construction) → map.get a.constructions k ≡ o → option_map (λ c. c.stage) o ≡ Some st
        → (x : Shape) × (shape_of a k ≡ Some x) × (x.starting ≡ is_to_launch (Some st)) × (x.first ≡ is_first st)
    found None is e = absurd (cc)
    found (Some c) is e = (shape c, ap (option_map shape) is, ap is_to_launch e, ap firsts e)

shape_announced : (now k : ℕ) (keys : map.FinMap nat_cmp Key) (a : Sessions) (q : ℕ) → shape_of (announced now k keys a) q ≡ shape_of a q
shape_announced now k keys a q = left_announced (λ b. shape_of b q) (λ j o b. shape_told j o b q) now k keys a

shape_settled : (now k : ℕ) (condition : Condition) (w : World) (q : ℕ) → nat_eq k q ≡ false → shape_of (sessions_ended now k condition w) q ≡ at w q
shape_settled now k condition w q other = spent_or_not (is_some (unspent w.sessions k))
  where
    spent_or_not : (b : Bool) → shape_of (cond b (announced now k (keys_ended now k condition w) (spent k w.sessions)) w.sessions) q ≡ at w q
    spent_or_not true =
        shape_announced now k (keys_ended now k condition w) (spent k w.sessions) q ∙ shape_spent k w.sessions q
        ∙ ap (λ b. cond b (option_map as_spent (at w q)) (at w q)) other
    spent_or_not false = refl

shape_ended : (now k : ℕ) (condition : Condition) (w : World) (q : ℕ) → shape_of (ended now k condition w).sessions q ≡ cond (nat_eq k q) None (at w q)
shape_ended now k condition w q = shape_removed k (sessions_ended now k condition w) q ∙ by_test (nat_eq k q) refl
  where
    by_test : (b : Bool) → nat_eq k q ≡ b → cond b None (shape_of (sessions_ended now k condition w) q) ≡ cond b None (at w q)
    by_test true same = refl
    by_test false other = shape_settled now k condition w q other

-- who completes a key is a handler that runs and has assumed that key's authority
pub concluder : (w : World) (s : SessionId) (asker : Asker) (k : ℕ) → asker_of w s ≡ Some asker → asker.assumed ≡ Some k
    → (j : ℕ) × (x : Shape) × (s ≡ Handler j) × (at w j ≡ Some x) × (x.assumed ≡ Some k)
concluder w (Client n) asker k is own = absurd (client (session_of w.sessions (Client n)) is)
  where
    none_known : (o : Option Asker) → o ≡ Some asker → ((one : Asker) → o ≡ Some one → one.assumed ≡ None) → ⊥
    none_known o e h = let none : asker.assumed ≡ None = h asker e in cc

    by_context : (one : Session) (c : Option _) → option_map (λ c. record { context = c; assumed = None; requestor = None; depth = 1; setting = one.setting }) c
        ≡ Some asker → ⊥
    by_context one None e = cc
    by_context one (Some c) e = let none : None ≡ asker.assumed = ap (λ (o : Option Asker). option_and_then (λ a. a.assumed) o) e in cc

    client : (o : Option Session) → option_and_then client_asker o ≡ Some asker → ⊥
    client None e = cc
    client (Some one) e = by_context one one.context e
concluder w (Handler j) asker k is own = handler (map.get w.sessions.constructions j) refl is
  where
    authority_of : (one : Session) (own_key : ℕ) (o : Option Authority) → option_map (handler_asker one own_key) o ≡ Some asker → Some own_key ≡ asker.assumed
    authority_of one own_key None e = absurd (cc)
    authority_of one own_key (Some a) e = ap (λ (o : Option Asker). option_and_then (λ a. a.assumed) o) e

    assumed_of : (one : Session) (o : Option ℕ) → one.assumed ≡ o
        → option_and_then (λ own_key. option_map (handler_asker one own_key) (assumed_authority w.sessions (Handler j))) o ≡ Some asker
        → one.assumed ≡ asker.assumed
    assumed_of one None e h = absurd (cc)
    assumed_of one (Some own_key) e h = e ∙ authority_of one own_key (assumed_authority w.sessions (Handler j)) h

    by_stage : (c : Construction) (st : Stage) → c.stage ≡ st → option_and_then (assumed_asker w (Handler j)) (handler_in st) ≡ Some asker
        → (shape c).assumed ≡ asker.assumed
    by_stage c Starting e h = absurd (cc)
    by_stage c (Plain one) e h = ap (λ (st : Stage). option_and_then (λ (s : Session). s.assumed) (handler_in st)) e ∙ assumed_of one one.assumed refl h
    by_stage c Piped e h = absurd (cc)
    by_stage c Negating e h = absurd (cc)

    handler : (o : Option Construction) → map.get w.sessions.constructions j ≡ o
        → option_and_then (assumed_asker w (Handler j)) (option_and_then (λ c. handler_in c.stage) o) ≡ Some asker
        → (j' : ℕ) × (x : Shape) × (Handler j ≡ Handler j') × (at w j' ≡ Some x) × (x.assumed ≡ Some k)
    handler None e h = absurd (cc)
    handler (Some c) e h = (j, shape c, refl, ap (option_map shape) e, by_stage c c.stage refl h ∙ own)

-- ---- the turn of each step

module _ (q : ℕ) (drawn drawn_after : Bool) (its_own : Type 0) where
  abbrev To : Tests → Option Shape → Option Shape → Type 0
  To t o n = Turn q drawn drawn_after its_own t o n

  turned : (t u : Tests) (o n m : Option Shape) → t ≡ u → n ≡ m → To u o m → To t o n
  turned t u o n m tests_are after turn = subst (λ (x : Tests). To x o n) (sym tests_are) (subst (λ (y : Option Shape). To u o y) (sym after) turn)

  rests : (t : Tests) (o n : Option Shape) → t ≡ none_of → n ≡ o → To t o n
  rests t o n none same = turned t none_of o n o none same quiet

  -- a step with the key k in it is a turn of that key, and quiet for the others
  of_key : (k : ℕ) (of : Bool → Tests) (m : Option Shape → Option Shape) (t : Tests) (o n : Option Shape) → of false ≡ none_of → t ≡ of (nat_eq k q)
      → n ≡ cond (nat_eq k q) (m o) o → (k ≡ q → To (of true) o (m o)) → To t o n
  of_key k of m t o n none is moved turn =
      by_key k q (To t o n) (λ same at. turned t (of true) o n (m o) (is ∙ ap of at) (moved ∙ ap (λ b. cond b (m o) o) at) (turn same))
      (λ at. rests t o n (is ∙ ap of at ∙ none) (moved ∙ ap (λ b. cond b (m o) o) at))

  -- of a construction of this shape
  shaped : (x : Shape) (m : Option Shape → Option Shape) (t : Tests) (o : Option Shape) → o ≡ Some x → To t (Some x) (m (Some x)) → To t o (m o)
  shaped x m t o is turn = subst (λ (y : Option Shape). To t y (m y)) (sym is) turn

running_shape : (w : World) (j : ℕ) (one : Session) → session_of w.sessions (Handler j) ≡ Some one → (x : Shape) × (at w j ≡ Some x) × (x.starting ≡ false)
running_shape w j one is = found (map.get w.sessions.constructions j) refl is
  where
    runs : (c : Construction) (st : Stage) → c.stage ≡ st → handler_in st ≡ Some one → (shape c).starting ≡ false
    runs c Starting e h = absurd (cc)
    runs c (Plain s) e h = ap (λ (st : Stage). is_to_launch (Some st)) e
    runs c Piped e h = absurd (cc)
    runs c Negating e h = absurd (cc)

    found : (o : Option Construction) → map.get w.sessions.constructions j ≡ o → option_and_then (λ c. handler_in c.stage) o ≡ Some one
        → (x : Shape) × (at w j ≡ Some x) × (x.starting ≡ false)
    found None e h = absurd (cc)
    found (Some c) e h = (shape c, ap (option_map shape) e, runs c c.stage refl h)

unspent_shape : (w : World) (j : ℕ) (x : Shape) → at w j ≡ Some x → is_none (unspent w.sessions j) ≡ false → x.unspent ≡ true
unspent_shape w j x is h = found (map.get w.sessions.constructions j) is h
  where
    some_authority : (o : Option Authority) → is_none o ≡ false → is_some o ≡ true
    some_authority None h = absurd (cc)
    some_authority (Some one) h = refl

    found : (o : Option Construction) → option_map shape o ≡ Some x → is_none (option_and_then (λ c. c.authority) o) ≡ false → x.unspent ≡ true
    found None e h = absurd (cc)
    found (Some c) e h = sym (ap (λ (y : Option Shape). option_map_or (λ z. z.unspent) y false) e) ∙ some_authority c.authority h

-- what a handler assumes without a refusal is its own and unspent
assumed_own : (w : World) (j : ℕ) (key : ℤ) (x : Shape) → at w j ≡ Some x → assume_refusal w (Handler j) key ≡ None → (k : ℕ) → serial_named key ≡ Some k
    → (k ≡ j) × (x.unspent ≡ true)
assumed_own w j (negsuc n) x is h k e = absurd (cc)
assumed_own w j (pos n) x is h k e = named n (n == 0) h e
  where
    named : (n : ℕ) (b : Bool) → cond b None (first_of (refused_if (not (n == j)) errno.Enokey ∷ refused_if (is_none (unspent w.sessions j)) errno.Ekeyrevoked
        ∷ [])) ≡ None → cond b None (Some n) ≡ Some k → (k ≡ j) × (x.unspent ≡ true)
    named n true h e = absurd (cc)
    named n false h e =
        let one = first_none (refused_if (not (n == j)) errno.Enokey) _ h in
        let two = (first_none (refused_if (is_none (unspent w.sessions j)) errno.Ekeyrevoked) _ one.1).0 in
        (sym (some_same e) ∙ eqb-true n j (not_not _ (if_none _ errno.Enokey one.0)), unspent_shape w j x is (if_none _ errno.Ekeyrevoked two))

some_none : (o : Option Authority) → is_some o ≡ true → is_none o ≡ false
some_none None h = absurd (true_false (sym h))
some_none (Some x) h = refl

-- every step is one of the turns of each construction
pub turns : (old : World) (now : ℕ) (e : Event) (a : Answer) (new : World) → Effect old now e a new → Goods old.sessions → (q : ℕ)
    → Turn q (is_drawn old q) (is_drawn new q) (IsOwnAsk q e) (tests q e a) (at old q) (at new q)
turns old now e a new is good q = by_case e a new.sessions (in_sessions old now e a new is)
  where
    by_case : (e : Event) (a : Answer) (b : Sessions) → InSessions old new now e a b
        → Turn q (is_drawn old q) (is_drawn new q) (IsOwnAsk q e) (tests q e a) (at old q) (shape_of b q)
    by_case e a b (is_refused y error w free) =
        rests q _ _ _ _ _ _ (ap (λ (m : Option ℤ). record none_of { assumed = m }) (undone q y (Refused error) refl)) refl
    by_case e a b (collects s wait outcome is ready) =
        rests q _ _ _ _ _ _ (told_nothing q s outcome) (shape_session s (with_wait None) (λ x. refl) old.sessions q)
    by_case e a b (greeted n hello c thread process session user can) =
        rests q _ _ _ _ _ _ refl (shape_session (Client n) (with_context c) (λ x. refl) old.sessions q)
    by_case e a b (starts s typ description callout r k subject authority names can fresh drawn) =
        of_key q _ _ _ k (λ b. record none_of { start = b }) (λ o. Some first_shape) _ (at old q) _ refl refl
        (shape_session s (with_wait (Some (new_wait k true))) (λ x. refl) (with_construction k authority old.sessions) q
        ∙ shape_issued k authority old.sessions q)
        (λ same. started_now (ap (is_drawn old) (sym same) ∙ fresh.unused) (ap (is_drawn new) (sym same) ∙ drawn))
    by_case e a b (waits_for s x k asks can apart) =
        rests q _ _ _ _ _ _ (ap (λ (m : Option ℤ). record none_of { assumed = m }) (undone q (Asked s x) (Waiting k) refl))
        (shape_session s (with_wait (Some (new_wait k false))) (λ x. refl) old.sessions q)
    by_case e a b (answered s x n plain) =
        rests q _ _ _ _ _ _ (nothing_done (n == 0) (completes x q) _ (plain.completes_none q) (not_assumed q s x (Done (Number n)) plain.not_assume)) refl
    by_case e a b (told s x bytes w) =
        rests q _ _ _ _ _ _ (ap (λ (m : Option ℤ). record none_of { assumed = m }) (undone q (Asked s x) (Done (Bytes bytes)) refl)) refl
    by_case e a b (is_set s x setting n plain can) =
        rests q _ _ _ _ _ _ (nothing_done (n == 0) (completes x q) _ (plain.completes_none q) (not_assumed q s x (Done (Number n)) plain.not_assume))
        (shape_session s (with_setting setting) (λ x. refl) old.sessions q)
    by_case e a b (assumed (Client n) key can none) = quiet
    by_case e a b (assumed (Handler j) key can none) =
        let there = some_is (session_of old.sessions (Handler j)) can.there in
        let run = running_shape old j there.0 there.1 in
        let m : Option Shape → Option Shape = option_map (as_assumed (serial_named key)) in
        let of : Bool → Tests = λ b. record none_of { assumed = cond b (Some key) None } in
        of_key q _ _ _ j of m _ (at old q) _ refl (ap of (and_true (nat_eq j q)))
        (shape_assumed j (serial_named key) old.sessions q there.0 there.1)
        (λ same. shaped q _ _ _ run.0 m _ (at old q) (ap (at old) (sym same) ∙ run.1)
        (assumed_now run.0 key run.2 (λ k named. let own = assumed_own old j key run.0 run.1 none k named in (own.0 ∙ same, own.1))))
    by_case e a b (concluded s x asker k keys which is own) =
        let found = concluder old s asker k is own in
        let mine : k ≡ found.0 = (good found.0 found.1 k found.3 found.4).0 in
        let no_assume : (key : ℤ) → ¬ (x ≡ ask.Assume key) =
        λ key same. true_false (sym (eq-eqb k k refl) ∙ sym (which k) ∙ ap (λ y. completes y k) same) in
        of_key q _ _ _ k (λ b. record none_of { completion = b }) (option_map as_spent) _ (at old q) _ refl
        (λ i. record none_of { completion = which q i; assumed = not_assumed q s x done no_assume i })
        (shape_announced now k keys (spent k old.sessions) q ∙ shape_spent k old.sessions q)
        (λ same. shaped q _ _ _ found.1 (option_map as_spent) _ (at old q) (ap (at old) (sym same ∙ mine) ∙ found.3)
        (completed_now found.1 (x, ap (λ z. Asked z x) (found.2 ∙ ap Handler (sym mine ∙ same))) (found.4 ∙ ap (λ (n : ℕ). Some n) same)))
    by_case e a b (runs_plain k st is launches) =
        let found = some_of old.sessions k st is in
        of_key q _ _ _ k (λ b. record none_of { launch = b }) (option_map (as_staged (Plain new_session))) _ (at old q) _ refl refl
        (shape_launched k (Plain new_session) old.sessions q refl)
        (λ same. shaped q _ _ _ found.0 (option_map (as_staged (Plain new_session))) _ (at old q) (ap (at old) (sym same) ∙ found.1)
        (launched_now found.0 (Plain new_session) (found.2 ∙ launches) refl (λ h. absurd (true_false (sym h)))))
    by_case e a b (runs_piped k is) =
        let found = some_of old.sessions k Starting is in
        of_key q _ _ _ k (λ b. record none_of { launch = b }) (option_map (as_staged Piped)) _ (at old q) _ refl refl
        (shape_launched k Piped old.sessions q refl)
        (λ same. shaped q _ _ _ found.0 (option_map (as_staged Piped)) _ (at old q) (ap (at old) (sym same) ∙ found.1)
        (launched_now found.0 Piped found.2 refl (λ _. found.3)))
    by_case e a b (follows k how payload is free) =
        let found = some_of old.sessions k Piped is in
        let spared = unspent_shape old k found.0 found.1 (some_none (unspent old.sessions k) free) in
        of_key q _ _ _ k (λ b. record none_of { negate = b }) (option_map (as_staged Negating)) _ (at old q) _ refl refl
        (shape_launched k Negating old.sessions q refl)
        (λ same. shaped q _ _ _ found.0 (option_map (as_staged Negating)) _ (at old q) (ap (at old) (sym same) ∙ found.1)
        (negated_now found.0 found.2 found.3 spared))
    by_case e a b (not_run k st condition is launches) =
        let found = some_of old.sessions k st is in
        of_key q _ _ _ k (λ b. record none_of { launch = b; ending = b }) (λ o. None) _ (at old q) _ refl refl (shape_ended now k condition old q)
        (λ same. shaped q _ _ _ found.0 (λ o. None) _ (at old q) (ap (at old) (sym same) ∙ found.1) (failed_now found.0 (found.2 ∙ launches)))
    by_case e a b (end_of k how payload st condition is running) =
        let found = some_of old.sessions k st is in
        of_key q _ _ _ k (λ b. record none_of { ending = b }) (λ o. None) _ (at old q) _ refl refl (shape_ended now k condition old q)
        (λ same. shaped q _ _ _ found.0 (λ o. None) _ (at old q) (ap (at old) (sym same) ∙ found.1) (ended_now found.0 (found.2 ∙ running)))
    by_case e a b _ = quiet
