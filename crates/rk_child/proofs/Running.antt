-- What was done with a launcher.
use Rattle.std.proofs.Common.{◌≡◌, ◌≤◌, ◌<◌, ◌+◌, ◌-◌, ℕ, Bool, true, false, inl, inr, arith, refl, ap, sym, subst, ◌∙◌, append_assoc, append-nil}
use Rattle.std.specs.Prelude.{List, [], ◌∷◌, ◌++◌, Option, Some, None, Result, Ok, Err, OnOk, IfErr, max, nat_lt, ◌||◌, ◌==◌, if◌then◌else◌}
use Rattle.std.proofs.Math.Nat.{le-min, min-le_right, max-le, le-max_left, le-max_right}
use Rattle.std.proofs.lemmas.Bool.Decides.{nat_tests}
use Rattle.rk_machine.specs.declared.event.How.TheVariants.{Exit, Signal, Fault}
use Rattle.rk_devices.specs.declared.output.OutputFault.{OutputFault}
use Rattle.rk_devices.specs.declared.reading.ReadFault.{ReadFault}
use Rattle.rk_devices.specs.declared.reading.ReadFault.TheVariants.{Failed, UsedUp}
use Rattle.rk_macro.specs.declared.command.Command.{Command}
use Rattle.rk_hall.specs.Seats.{TokenShown, negated}
use Rattle.rk_devices.specs.Counts.{most, Rose, both, raised, raised_by}
use Rattle.rk_devices.specs.Shown.{ChildShown, LauncherShown, Tried, FailsReading, GoesOn, ReadsUpTo, and_then, new_child, one_more, taken_back, with_tried}
use Rattle.rk_devices.proofs.Rising.{and_more, and_none, rose_up, rose_from, rose_to}
use Rattle.rk_devices.specs.declared.driven.Driven.{Driven}
use Rattle.rk_devices.specs.declared.driven.Driven.TheVariants.{Ended, NoPayload, NotStarted, NotMade, NoMemory, StartFailed, ReadFailed, WaitFailed}
use Rattle.rk_conf.specs.declared.line.Line.{Line}
use Rattle.rk_macro.specs.declared.subject.Subject.{Subject}
use Rattle.rk_child.specs.Commands.{IsCommandFor, IsUnprepared}
use Rattle.rk_child.specs.Driving.{AreStarts, no_start, a_start, Runs, FaultRose, TellsEnd, TriesMore, Tries, Drives, HasRun, HasTried, EndsAs, later_of, told_with}

at_most : {a b c : ℕ} → a ≤ b → b ≤ c → a ≤ c
at_most le more = omega (arith, le, more)

-- some starts, and then some more
starts_on : (conf : List Line) (out : ℕ) (x y : List Tried) → AreStarts conf out x → AreStarts conf out y → AreStarts conf out (x ++ y)
starts_on conf out x y (no_start n) more = more
starts_on conf out x y (a_start n subject command nested later is inner rest) more =
    let one : Tried = record { out = n; command = command } in
    subst (λ z. AreStarts conf n (one ∷ z)) (sym (append_assoc nested later y))
    (a_start n subject command nested (later ++ y) is inner (starts_on conf n later y rest more))

-- one start, and what was started while it was out
one_start : (conf : List Line) (n : ℕ) (subject : Subject) (command : Command) (nested : List Tried) → IsCommandFor conf subject command
    → AreStarts conf (n + 1) nested → AreStarts conf n (record { out = n; command = command } ∷ nested)
one_start conf n subject command nested is inner =
    let one : Tried = record { out = n; command = command } in
    subst (λ z. AreStarts conf n (one ∷ z)) (append-nil nested) (a_start n subject command nested [] is inner (no_start n))

-- no command
tries_none : (conf : List Line) (a : LauncherShown) → TriesMore conf a a
tries_none conf a = ([], and_none a.tried, no_start a.out)

-- some commands, and then some more
tries_then : (conf : List Line) (a b c : LauncherShown) → b.out ≡ a.out → TriesMore conf a b → TriesMore conf b c → TriesMore conf a c
tries_then conf a b c same (x, is, all) (y, more, others) = (
  x ++ y,
  more ∙ ap (λ t. and_then t y) is ∙ and_more a.tried x y,
  starts_on conf a.out x y all (subst (λ n. AreStarts conf n y) same others),
)

-- one command, and what was started while it was out
tries_one : (conf : List Line) (subject : Subject) (a b : LauncherShown) (command : Command) (c : ChildShown) → IsCommandFor conf subject command
    → TriesMore conf (one_more (with_tried command a)) b → TriesMore conf a (taken_back b c)
tries_one conf subject a b command c for (x, is, all) =
    let one : Tried = record { out = a.out; command = command } in
    (one ∷ x, is ∙ and_more a.tried (one ∷ []) x, one_start conf a.out subject command x for all)

-- nothing was done
pub runs_same : (conf : List Line) (d : ℕ) (a : LauncherShown) → a.count ≤ most → Runs conf d a a
runs_same conf d a bound = record {
  bound = bound;
  rises = omega arith;
  longest = omega arith;
  reads = le-max_left a.longest 1048576;
  hasty = refl;
  out = refl;
  deepest = le-max_left a.deepest (a.out + (9 - d));
  tried = tries_none conf a;
}

-- one after the other
pub runs_further : (conf : List Line) (d : ℕ) (a b c : LauncherShown) → Runs conf d a b → Runs conf d b c → Runs conf d a c
runs_further conf d a b c f g = record {
  bound = g.bound;
  rises = at_most f.rises g.rises;
  longest = at_most f.longest g.longest;
  reads = at_most g.reads (max-le f.reads (le-max_right a.longest 1048576));
  hasty = g.hasty ∙ f.hasty;
  out = g.out ∙ f.out;
  tried = tries_then conf a b c f.out f.tried g.tried;
  deepest =
      let inside : b.out + (9 - d) ≤ max a.deepest (a.out + (9 - d))
      = subst (λ n. n + (9 - d) ≤ max a.deepest (a.out + (9 - d))) (sym f.out) (le-max_right a.deepest (a.out + (9 - d))) in
      at_most g.deepest (max-le f.deepest inside);
}

-- a deeper launch
pub runs_deeper : (conf : List Line) (d e : ℕ) (a b : LauncherShown) → d < e → Runs conf e a b → Runs conf (d + 1) a b
runs_deeper conf d e a b lt f = record {
  bound = f.bound;
  rises = f.rises;
  longest = f.longest;
  reads = f.reads;
  hasty = f.hasty;
  out = f.out;
  tried = f.tried;
  deepest =
      let inside : a.out + (9 - e) ≤ max a.deepest (a.out + (9 - (d + 1))) = at_most (omega (arith, lt)) (le-max_right a.deepest (a.out + (9 - (d + 1)))) in
      at_most f.deepest (max-le (le-max_left a.deepest (a.out + (9 - (d + 1)))) inside);
}

-- a start that failed
pub runs_failed : (conf : List Line) (subject : Subject) (d : ℕ) (a b : LauncherShown) (command : Command) → IsCommandFor conf subject command
    → b.count ≤ most → Rose a.count b.count → b ≡ record (with_tried command a) { count = b.count } → Runs conf d a b
runs_failed conf subject d a b command for bound rose is = record {
  bound = bound;
  rises = rose_up a.count b.count rose;
  longest = let e : b.longest ≡ a.longest = ap (λ (l : LauncherShown). l.longest) is in omega (arith, e);
  reads = let e : b.longest ≡ a.longest = ap (λ (l : LauncherShown). l.longest) is in at_most (omega (arith, e)) (le-max_left a.longest 1048576);
  hasty = ap (λ (l : LauncherShown). l.hasty) is;
  out = ap (λ (l : LauncherShown). l.out) is;
  tried = (_, ap (λ (l : LauncherShown). l.tried) is, one_start conf a.out subject command [] for (no_start (a.out + 1)));
  deepest = let e : b.deepest ≡ a.deepest = ap (λ (l : LauncherShown). l.deepest) is in at_most (omega (arith, e)) (le-max_left a.deepest (a.out + (9 - d)));
}

not_hasty : (a b : Bool) → b ≡ false → (a || b) ≡ a
not_hasty true b is = refl
not_hasty false b is = is

-- a child that was started came back
runs_child : (conf : List Line) (subject : Subject) (d : ℕ) (a b : LauncherShown) (command : Command) (c : ChildShown) → d ≤ 8
    → IsCommandFor conf subject command → c.reads ≤ 1048576 → c.hasty ≡ false → Runs conf (d + 1) (one_more (with_tried command a)) b
    → Runs conf d a (taken_back b c)
runs_child conf subject d a b command c deep for few shut f = record {
  bound = min-le_right (b.count + c.count) most;
  rises = at_most f.rises (le-min (omega arith) f.bound);
  longest = at_most f.longest (le-max_left b.longest c.reads);
  reads = max-le f.reads (at_most few (le-max_right a.longest 1048576));
  hasty = not_hasty b.hasty c.hasty shut ∙ f.hasty;
  tried = tries_one conf subject a b command c for f.tried;
  out = let e = f.out in omega (arith, e);
  deepest =
      let inside = le-max_right a.deepest (a.out + (9 - d)) in
      let here : a.out + 1 ≤ max a.deepest (a.out + (9 - d)) = at_most (omega (arith, deep)) inside in
      let below : a.out + 1 + (9 - (d + 1)) ≤ max a.deepest (a.out + (9 - d)) = at_most (omega (arith, deep)) inside in
      at_most f.deepest (max-le (max-le (le-max_left a.deepest (a.out + (9 - d))) here) below);
}

-- a count that rose is one at least
some : (a b : ℕ) → Rose a b → 1 ≤ b
some a b (inl lt) = omega arith
some a b (inr same) = omega (arith, same.1)

-- a child's count that rose makes its launcher's rise
child_rose : (a b c : ℕ) → a ≤ b → b ≤ most → 1 ≤ c → Rose a (both b c)
child_rose a b c le bound one = rose_from a b (both b c) le (by_test (nat_lt b most) refl)
  where
    by_test : (t : Bool) → nat_lt b most ≡ t → Rose b (both b c)
    by_test true h =
        let lt : b < most = grind (arith, nat_tests) in
        let up : b + 1 ≤ both b c = le-min (omega (arith, one)) (omega (arith, lt)) in inl (omega (arith, up))
    by_test false h =
        let ge : most ≤ b = grind (arith, nat_tests) in
        let up : b ≤ both b c = le-min (omega arith) bound in
        let cap : both b c ≤ most = min-le_right (b + c) most in
        inr (omega (arith, bound, ge), omega (arith, bound, ge, up, cap))

-- how the child that came back has ended
told_back : (a b : LauncherShown) (t : Bool) (c e : ChildShown) (read : Result Unit ReadFault) (driven : Driven) → a.count ≤ b.count → b.count ≤ most
    → GoesOn (new_child t) c → ReadsUpTo 1048576 read (new_child t) c → OnOk read (c.at_end ≡ true) → IfErr read (λ f. FailsReading f (new_child t) c)
    → EndsAs read driven c e
    → FaultRose driven a (taken_back b e) × TellsEnd driven a (taken_back b e) × HasRun driven
told_back a b t c e (Ok u) (Ended how) le bound goes reads end fails ends =
    (tt, (ap (λ (x : ChildShown). x.waited) ends, ap (λ (x : ChildShown). x.at_end) ends ∙ end), tt)
told_back a b t c e (Ok u) WaitFailed le bound goes reads end fails ends = (
  child_rose a.count b.count e.count le bound (some c.count e.count ends.0),
  (ap (λ (x : ChildShown). x.waited) ends.1, ap (λ (x : ChildShown). x.at_end) ends.1 ∙ end),
  tt,
)
told_back a b t c e (Ok u) (NoPayload fault) le bound goes reads end fails ends = absurd ends
told_back a b t c e (Ok u) NotStarted le bound goes reads end fails ends = absurd ends
told_back a b t c e (Ok u) (NotMade fault) le bound goes reads end fails ends = absurd ends
told_back a b t c e (Ok u) NoMemory le bound goes reads end fails ends = absurd ends
told_back a b t c e (Ok u) StartFailed le bound goes reads end fails ends = absurd ends
told_back a b t c e (Ok u) ReadFailed le bound goes reads end fails ends = absurd ends
told_back a b t c e (Err Failed) driven le bound goes reads end fails ends =
    subst (λ (x : Driven). FaultRose x a (taken_back b e) × TellsEnd x a (taken_back b e) × HasRun x) (sym ends.0) (
      inl (child_rose a.count b.count e.count le bound (subst (λ (x : ChildShown). 1 ≤ x.count) (sym ends.1) (some 0 c.count fails))),
      ap (λ (x : ChildShown). x.waited) ends.1 ∙ goes.waited,
      tt,
    )
told_back a b t c e (Err UsedUp) driven le bound goes reads end fails ends =
    subst (λ (x : Driven). FaultRose x a (taken_back b e) × TellsEnd x a (taken_back b e) × HasRun x) (sym ends.0) (
      inr (ap (λ (x : ChildShown). x.reads) ends.1 ∙ reads),
      ap (λ (x : ChildShown). x.waited) ends.1 ∙ goes.waited,
      tt,
    )

-- a child was read no more often than it may be
few_reads : (t : Bool) (c : ChildShown) (read : Result Unit ReadFault) → ReadsUpTo 1048576 read (new_child t) c → c.reads ≤ 1048576
few_reads t c (Ok u) reads = reads
few_reads t c (Err Failed) reads = reads
few_reads t c (Err UsedUp) reads = let is : c.reads ≡ 1048576 = reads in omega (arith, is)

-- the wait reads nothing, and nothing passes meanwhile
pub same_waited : (c e : ChildShown) (read : Result Unit ReadFault) (driven : Driven) → EndsAs read driven c e → (e.reads ≡ c.reads) × (e.story ≡ c.story)
same_waited c e (Err f) driven ends = (ap (λ (x : ChildShown). x.reads) ends.1, ap (λ (x : ChildShown). x.story) ends.1)
same_waited c e (Ok u) (Ended how) ends = (ap (λ (x : ChildShown). x.reads) ends, ap (λ (x : ChildShown). x.story) ends)
same_waited c e (Ok u) WaitFailed ends = (ap (λ (x : ChildShown). x.reads) ends.1, ap (λ (x : ChildShown). x.story) ends.1)
same_waited c e (Ok u) (NoPayload fault) ends = absurd ends
same_waited c e (Ok u) NotStarted ends = absurd ends
same_waited c e (Ok u) (NotMade fault) ends = absurd ends
same_waited c e (Ok u) NoMemory ends = absurd ends
same_waited c e (Ok u) StartFailed ends = absurd ends
same_waited c e (Ok u) ReadFailed ends = absurd ends

-- it is waited for once its input is closed
shut_first : (t : Bool) (c e : ChildShown) (read : Result Unit ReadFault) (driven : Driven) → GoesOn (new_child t) c → EndsAs read driven c e
    → e.hasty ≡ false
shut_first t c e (Err f) driven goes ends = ap (λ (x : ChildShown). x.hasty) ends.1 ∙ goes.hasty
shut_first t c e (Ok u) (Ended how) goes ends = ap (λ (x : ChildShown). x.hasty) ends
shut_first t c e (Ok u) WaitFailed goes ends = ap (λ (x : ChildShown). x.hasty) ends.1
shut_first t c e (Ok u) (NoPayload fault) goes ends = absurd ends
shut_first t c e (Ok u) NotStarted goes ends = absurd ends
shut_first t c e (Ok u) (NotMade fault) goes ends = absurd ends
shut_first t c e (Ok u) NoMemory goes ends = absurd ends
shut_first t c e (Ok u) StartFailed goes ends = absurd ends
shut_first t c e (Ok u) ReadFailed goes ends = absurd ends

-- a command from its start to its end
pub came_back : (conf : List Line) (subject : Subject) (d : ℕ) (a b : LauncherShown) (command : Command) (t : Bool) (c e : ChildShown)
    (read : Result Unit ReadFault) (driven : Driven) → d ≤ 8 → IsCommandFor conf subject command
    → Runs conf (d + 1) (one_more (with_tried command a)) b → GoesOn (new_child t) c → ReadsUpTo 1048576 read (new_child t) c → OnOk read (c.at_end ≡ true)
    → IfErr read (λ f. FailsReading f (new_child t) c) → EndsAs read driven c e
    → Runs conf d a (taken_back b e) × FaultRose driven a (taken_back b e) × TellsEnd driven a (taken_back b e) × HasRun driven
came_back conf subject d a b command t c e read driven deep for f goes reads end fails ends =
    let told = told_back a b t c e read driven f.rises f.bound goes reads end fails ends in
    let few : e.reads ≤ 1048576 = subst (λ n. n ≤ 1048576) (sym (same_waited c e read driven ends).0) (few_reads t c read reads) in
    (runs_child conf subject d a b command e deep for few (shut_first t c e read driven goes ends) f, told.0, told.1, told.2)

-- a fault that came later
fault_from : (driven : Driven) (a b c : LauncherShown) → a.count ≤ b.count → FaultRose driven b c → FaultRose driven a c
fault_from StartFailed a b c le rose = rose_from a.count b.count c.count le rose
fault_from ReadFailed a b c le (inl rose) = inl (rose_from a.count b.count c.count le rose)
fault_from ReadFailed a b c le (inr used) = inr used
fault_from WaitFailed a b c le rose = rose_from a.count b.count c.count le rose
fault_from (Ended how) a b c le rose = tt
fault_from (NoPayload fault) a b c le rose = tt
fault_from NotStarted a b c le rose = tt
fault_from (NotMade fault) a b c le rose = tt
fault_from NoMemory a b c le rose = tt

-- a fault that came before
fault_to : (driven : Driven) (a b c : LauncherShown) → b.count ≤ c.count → c.reads ≡ b.reads
    → FaultRose driven a b → FaultRose driven a c
fault_to StartFailed a b c le same rose = rose_to a.count b.count c.count rose le
fault_to ReadFailed a b c le same (inl rose) = inl (rose_to a.count b.count c.count rose le)
fault_to ReadFailed a b c le same (inr used) = inr (same ∙ used)
fault_to WaitFailed a b c le same rose = rose_to a.count b.count c.count rose le
fault_to (Ended how) a b c le same rose = tt
fault_to (NoPayload fault) a b c le same rose = tt
fault_to NotStarted a b c le same rose = tt
fault_to (NotMade fault) a b c le same rose = tt
fault_to NoMemory a b c le same rose = tt

-- the same end, where none came back since
same_end : (driven : Driven) (a b c : LauncherShown) → HasRun driven → c.last ≡ b.last → c.at_end ≡ b.at_end → TellsEnd driven a b → TellsEnd driven a c
same_end (Ended how) a b c run same end is = (same ∙ is.0, end ∙ is.1)
same_end (NoPayload fault) a b c run same end is = (same ∙ is.0, end ∙ is.1)
same_end ReadFailed a b c run same end is = same ∙ is
same_end WaitFailed a b c run same end is = (same ∙ is.0, end ∙ is.1)
same_end NotStarted a b c run same end is = absurd run
same_end (NotMade fault) a b c run same end is = absurd run
same_end NoMemory a b c run same end is = absurd run
same_end StartFailed a b c run same end is = absurd run

-- one command, where none came back since
still_told : (conf : List Line) (first : Driven) (a b c : LauncherShown) (d : ℕ) → HasRun first → FaultRose first a b → TellsEnd first a b
    → Runs conf d b c → c.reads ≡ b.reads → c.last ≡ b.last → c.at_end ≡ b.at_end → FaultRose first a c × TellsEnd first a c
still_told conf first a b c d run rose ends g reads same end = (fault_to first a b c g.rises reads rose, same_end first a b c run same end ends)

-- one command that another one followed
pub followed : (conf : List Line) (first second : Driven) (a b c : LauncherShown) (d : ℕ) → HasRun first → Runs conf d a b → FaultRose first a b
    → TellsEnd first a b → Runs conf d b c → FaultRose second b c → TellsEnd second b c → FaultRose (later_of first second) a c × TellsEnd (later_of first second) a c
followed conf first NotStarted a b c d run f rose ends g rose' ends' =
    still_told conf first a b c d run rose ends g (ap (λ (l : LauncherShown). l.reads) ends') (ap (λ (l : LauncherShown). l.last) ends')
    (ap (λ (l : LauncherShown). l.at_end) ends')
followed conf first (NotMade fault) a b c d run f rose ends g rose' ends' =
    still_told conf first a b c d run rose ends g (ap (λ (l : LauncherShown). l.reads) ends') (ap (λ (l : LauncherShown). l.last) ends')
    (ap (λ (l : LauncherShown). l.at_end) ends')
followed conf first NoMemory a b c d run f rose ends g rose' ends' =
    still_told conf first a b c d run rose ends g (ap (λ (l : LauncherShown). l.reads) ends') (ap (λ (l : LauncherShown). l.last) ends')
    (ap (λ (l : LauncherShown). l.at_end) ends')
followed conf first StartFailed a b c d run f rose ends g rose' ends' =
    still_told conf first a b c d run rose ends g (ap (λ (l : LauncherShown). l.reads) ends') (ap (λ (l : LauncherShown). l.last) ends')
    (ap (λ (l : LauncherShown). l.at_end) ends')
followed conf first (Ended how) a b c d run f rose ends g rose' ends' = (fault_from (Ended how) a b c f.rises rose', ends')
followed conf first (NoPayload fault) a b c d run f rose ends g rose' ends' = (fault_from (NoPayload fault) a b c f.rises rose', ends')
followed conf first ReadFailed a b c d run f rose ends g rose' ends' = (fault_from ReadFailed a b c f.rises rose', ends')
followed conf first WaitFailed a b c d run f rose ends g rose' ends' = (fault_from WaitFailed a b c f.rises rose', ends')

-- a command with an output, or none
with_told : (ended : Driven) (output : Option (Result (List ℕ) OutputFault)) (a b : LauncherShown) → FaultRose ended a b → TellsEnd ended a b → HasRun ended
    → FaultRose (told_with ended output) a b × TellsEnd (told_with ended output) a b × HasRun (told_with ended output)
with_told ended None a b rose ends run = (rose, ends, run)
with_told ended (Some (Ok payload)) a b rose ends run = (rose, ends, run)
with_told (Ended (Exit status)) (Some (Err fault)) a b rose ends run = by_test (status == 0) refl
  where
    told : Bool → Driven
    told t = if t then NoPayload fault else Ended (Exit status)

    by_test : (t : Bool) → (status == 0) ≡ t → FaultRose (told t) a b × TellsEnd (told t) a b × HasRun (told t)
    by_test true h = let zero : status ≡ 0 = grind (arith, nat_tests) in (tt, (ends.0 ∙ ap (λ n. Some (Some (Exit n))) zero, ends.1), tt)
    by_test false h = (tt, ends, tt)
with_told (Ended Signal) (Some (Err fault)) a b rose ends run = (rose, ends, run)
with_told (Ended Fault) (Some (Err fault)) a b rose ends run = (rose, ends, run)
with_told (NoPayload other) (Some (Err fault)) a b rose ends run = (rose, ends, run)
with_told NotStarted (Some (Err fault)) a b rose ends run = absurd run
with_told (NotMade why) (Some (Err fault)) a b rose ends run = absurd run
with_told NoMemory (Some (Err fault)) a b rose ends run = absurd run
with_told StartFailed (Some (Err fault)) a b rose ends run = absurd run
with_told ReadFailed (Some (Err fault)) a b rose ends run = (rose, ends, run)
with_told WaitFailed (Some (Err fault)) a b rose ends run = (rose, ends, run)

-- the same, by what each call said
pub ran_through : (conf : List Line) (subject : Subject) (d : ℕ) (a s b new : LauncherShown) (command : Command) (t : Bool) (n c e : ChildShown) (read : Result Unit ReadFault) (driven : Driven)
    → d ≤ 8 → IsCommandFor conf subject command → s ≡ one_more (with_tried command a) → n ≡ new_child t → Runs conf (d + 1) s b → GoesOn n c → ReadsUpTo 1048576 read n c
    → OnOk read (c.at_end ≡ true) → IfErr read (λ f. FailsReading f n c) → EndsAs read driven c e → new ≡ taken_back b e
    → Runs conf d a new × FaultRose driven a new × TellsEnd driven a new × HasRun driven
ran_through conf subject d a s b new command t n c e read driven deep for started fresh f goes reads end fails ends back =
    subst (λ (x : LauncherShown). Runs conf d a x × FaultRose driven a x × TellsEnd driven a x × HasRun driven) (sym back)
    (came_back conf subject d a b command t c e read driven deep for (subst (λ (x : LauncherShown). Runs conf (d + 1) x b) started f)
    (subst (λ (x : ChildShown). GoesOn x c) fresh goes) (subst (λ (x : ChildShown). ReadsUpTo 1048576 read x c) fresh reads) end
    (subst (λ (x : ChildShown). IfErr read (λ f. FailsReading f x c)) fresh fails) ends)

-- the same of one with an output, or none
pub ran_with : (conf : List Line) (subject : Subject) (d : ℕ) (a s b new : LauncherShown) (command : Command) (t : Bool) (n c e : ChildShown) (read : Result Unit ReadFault)
    (ended driven : Driven) (output : Option (Result (List ℕ) OutputFault)) → d ≤ 8 → IsCommandFor conf subject command
    → s ≡ one_more (with_tried command a) → n ≡ new_child t → Runs conf (d + 1) s b → GoesOn n c → ReadsUpTo 1048576 read n c → OnOk read (c.at_end ≡ true)
    → IfErr read (λ f. FailsReading f n c) → EndsAs read ended c e → new ≡ taken_back b e → driven ≡ told_with ended output
    → Runs conf d a new × FaultRose driven a new × TellsEnd driven a new × HasRun driven
ran_with conf subject d a s b new command t n c e read ended driven output deep for started fresh f goes reads end fails ends back told =
    let r = ran_through conf subject d a s b new command t n c e read ended deep for started fresh f goes reads end fails ends back in
    let w = with_told ended output a new r.1 r.2 r.3 in
    subst (λ (x : Driven). Runs conf d a new × FaultRose x a new × TellsEnd x a new × HasRun x) (sym told) (r.0, w.0, w.1, w.2)

ran : (conf : List Line) (subject : Subject) (out : ℕ) (command : Command) (nested : List Tried) (driven : Driven) → IsCommandFor conf subject command
    → HasRun driven → AreStarts conf (out + 1) nested → Tries conf subject out driven (record { out = out; command = command } ∷ nested)
ran conf subject out command nested (Ended how) is run all = (command, nested, is, all, refl)
ran conf subject out command nested (NoPayload fault) is run all = (command, nested, is, all, refl)
ran conf subject out command nested ReadFailed is run all = (command, nested, is, all, refl)
ran conf subject out command nested WaitFailed is run all = (command, nested, is, all, refl)
ran conf subject out command nested NotStarted is run all = absurd run
ran conf subject out command nested (NotMade fault) is run all = absurd run
ran conf subject out command nested NoMemory is run all = absurd run
ran conf subject out command nested StartFailed is run all = absurd run

-- the command that was prepared was started, and then what its handler's own starts are
pub tried_it : (conf : List Line) (subject : Subject) (driven : Driven) (a s b new : LauncherShown) (command : Command) (e : ChildShown)
    → IsCommandFor conf subject command → HasRun driven → s ≡ one_more (with_tried command a) → TriesMore conf s b → new ≡ taken_back b e
    → HasTried conf subject driven a new
tried_it conf subject driven a s b new command e is run started more back =
    let m = subst (λ (x : LauncherShown). TriesMore conf x b) started more in
    let one : Tried = record { out = a.out; command = command } in (
      one ∷ m.0,
      ap (λ (x : LauncherShown). x.tried) back ∙ m.1 ∙ and_more a.tried (one ∷ []) m.0,
      ran conf subject a.out command m.0 driven is run m.2,
    )

-- its start failed
pub tried_in_vain : (conf : List Line) (subject : Subject) (a b : LauncherShown) (command : Command) → IsCommandFor conf subject command
    → b ≡ record (with_tried command a) { count = b.count } → HasTried conf subject StartFailed a b
tried_in_vain conf subject a b command is failed =
    let one : Tried = record { out = a.out; command = command } in
    (one ∷ [], ap (λ (x : LauncherShown). x.tried) failed, (command, [], is, no_start (a.out + 1), refl))

-- none was prepared
pub tried_none : (conf : List Line) (subject : Subject) (driven : Driven) (a : LauncherShown) → IsUnprepared driven → HasTried conf subject driven a a
tried_none conf subject NotStarted a h = ([], and_none a.tried, refl)
tried_none conf subject (NotMade fault) a h = ([], and_none a.tried, refl)
tried_none conf subject NoMemory a h = ([], and_none a.tried, refl)
tried_none conf subject (Ended how) a h = absurd h
tried_none conf subject (NoPayload fault) a h = absurd h
tried_none conf subject StartFailed a h = absurd h
tried_none conf subject ReadFailed a h = absurd h
tried_none conf subject WaitFailed a h = absurd h

-- no read so far
pub raised_none : (n : ℕ) → n ≡ raised_by 0 n
raised_none n = grind (arith, nat_tests)

raised_more : (k n : ℕ) → raised (raised_by k n) ≡ raised_by (k + 1) n
raised_more k n = grind (arith, nat_tests)

-- one read more, and then none
pub reads_more : (k old mid new first : ℕ) → old ≡ raised_by k first → mid ≡ raised old → new ≡ mid → new ≡ raised_by (k + 1) first
reads_more k old mid new first so is same = same ∙ is ∙ ap raised so ∙ raised_more k first

-- two commands, one after the other
pub drives_on : (conf : List Line) (t l : TokenShown) (first second driven : Driven) (a b c : LauncherShown) → (l ≡ negated t) × HasRun first
    → Runs conf t.depth a b → HasTried conf t.subject first a b → HasTried conf l.subject second b c → driven ≡ later_of first second
    → Drives conf t.subject driven a c
drives_on conf t l first second driven a b c next f one two is =
    inr (first, second, b, next.1, one, f.out, subst (λ (x : TokenShown). HasTried conf x.subject second b c) next.0 two, is)
