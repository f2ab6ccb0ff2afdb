-- Steps that are joined, list after list.
use Rattle.std.proofs.Common.{◌≡◌, ℕ, zero, suc, ◌+◌, ◌<◌, ◌≤◌, List, [], ◌∷◌, ◌++◌, length, take, drop, get_or, refl, sym, ap, subst, ◌∙◌, append-nil, length-append, arith}
use Rattle.std.specs.List.{flat_map}
use Rattle.std.proofs.lemmas.List.{take_more, drop_more, take-append-le, take-append-drop, get_or-append-add}
use Rattle.std.proofs.lemmas.Grind.{flat_map-append}
use Rattle.std.proofs.lemmas.Option.{slice_get_within, slice_get-get_or, get_or_from_slice_get}
use Rattle.std.proofs.Math.Seq.{take-append-add}
use Rattle.std.proofs.Math.ListN.{get_or-append}
use Rattle.std.specs.Prelude.{Some}
use Rattle.rk_names.specs.declared.errors.Errno.TheVariants as errno
use Rattle.rk_machine.specs.declared.event.Answer.{Answer}
use Rattle.rk_machine.specs.declared.event.Answer.TheVariants.{Refused}
use Rattle.rk_machine.specs.World.{World, empty_world}
use Rattle.rk_machine.specs.Steps.{Beginning, Step}
use Rattle.rk_machine.specs.Laws.{ContinuesTo}
use Rattle.rk_machine.proofs.EveryRun.KeepsLaws.{lawful}
use Rattle.rk_record.specs.declared.recorded.Recorded.{Recorded}
use Rattle.rk_record.specs.declared.rejoin_fault.Rejoin.{Rejoin}
use Rattle.rk_record.specs.declared.rejoin_fault.Rejoin.TheVariants.{Broken, NoMemory}
use Rattle.rk_record.specs.Record.{Runs, past_of}
use Rattle.rk_record.specs.Volumes.{counted, IsBrokenAt, Breaks}
use Rattle.rk_record.proofs.Runs.{runs-snoc, runs_on}

pub runs-append : (w v u : World) (xs ys : List Recorded) → Runs w xs v → Runs v ys u → Runs w (xs ++ ys) u
unfolding Runs
runs-append w v u [] ys r t = subst (λ x. Runs x ys u) (sym r) t
runs-append w v u (x ∷ xs) ys r t = (r.0, r.1, runs-append r.0 v u xs ys r.2 t)

pub run_take : (w v u : World) (ss : List Recorded) (i : ℕ) (d : Recorded) (a : Answer) → i < length ss → Runs w (take i ss) v
    → Step v (get_or ss i d).now (get_or ss i d).event a u → a ≡ (get_or ss i d).answer → Runs w (take (i + 1) ss) u
run_take w v u ss i d a lt run step is =
    subst (λ x. Runs w x u) (sym (take_more ss i d lt))
    (runs-snoc w v u (take i ss) (get_or ss i d) run (subst (λ x. Step v (get_or ss i d).now (get_or ss i d).event x u) is step))

-- ---- lists that are joined

-- one list more
more : {X : Type 0} (f : X → List Recorded) (xs : List X) (i : ℕ) (x : X) → i < length xs → x ≡ get_or xs i x
    → flat_map f (take (i + 1) xs) ≡ flat_map f (take i xs) ++ f x
more f xs i x lt at =
    ap (flat_map f) (take_more xs i x lt) ∙ flat_map-append f (take i xs) (get_or xs i x ∷ []) ∙ ap (λ l. flat_map f (take i xs) ++ l) (append-nil (f (get_or xs i x)))
    ∙ ap (λ y. flat_map f (take i xs) ++ f y) (sym at)

-- a run through some lists of steps, and one through the next list, are a run through all of them
pub run_more : {X : Type 0} (f : X → List Recorded) (w v u : World) (xs : List X) (i : ℕ) (x : X) → i < length xs → x ≡ get_or xs i x
    → Runs w (flat_map f (take i xs)) v → Runs v (f x) u → Runs w (flat_map f (take (i + 1) xs)) u
run_more f w v u xs i x lt at r s = subst (λ l. Runs w l u) (sym (more f xs i x lt at)) (runs-append w v u (flat_map f (take i xs)) (f x) r s)

-- a count that stands at its end stays there
counted_on : (a b : ℕ) → counted (counted a + b) ≡ counted (a + b)
counted_on a b = omega arith

-- the count of the steps of some lists, and those of the next one, are the count of all
pub count_more : {X : Type 0} (f : X → List Recorded) (xs : List X) (i : ℕ) (x : X) (n : ℕ) → i < length xs → x ≡ get_or xs i x
    → n ≡ counted (length (flat_map f (take i xs))) → counted (n + length (f x)) ≡ counted (length (flat_map f (take (i + 1) xs)))
count_more f xs i x n lt at is =
    ap (λ m. counted (m + length (f x))) is ∙ counted_on (length (flat_map f (take i xs))) (length (f x))
    ∙ ap counted (sym (ap length (more f xs i x lt at) ∙ length-append (flat_map f (take i xs)) (f x)))

-- the count goes on by one
pub count_one : (before i n : ℕ) → n ≡ counted (before + i) → counted (n + 1) ≡ counted (before + (i + 1))
count_one before i n is = omega (arith, is)

-- the lists before one, it, and those after it
around : {X : Type 0} (f : X → List Recorded) (xs : List X) (i : ℕ) (x : X) → i < length xs → x ≡ get_or xs i x
    → flat_map f xs ≡ flat_map f (take i xs) ++ (f x ++ flat_map f (drop (i + 1) xs))
around f xs i x lt at =
    ap (flat_map f) (sym (take-append-drop i xs)) ∙ flat_map-append f (take i xs) (drop i xs)
    ∙ ap (λ l. flat_map f (take i xs) ++ flat_map f l) (drop_more xs i x lt)
    ∙ ap (λ y. flat_map f (take i xs) ++ (f y ++ flat_map f (drop (i + 1) xs))) (sym at)

-- what is broken within the steps between others
broken_within : (w v : World) (before steps after : List Recorded) (place : ℕ) → Runs w before v → IsBrokenAt v steps place
    → IsBrokenAt w (before ++ (steps ++ after)) (length before + place)
broken_within w v before steps after place run b =
    let lt : place < length steps = slice_get_within steps place b.found b.stands in
    let taken : take (length before + place) (before ++ (steps ++ after)) ≡ before ++ take place steps =
    take-append-add before (steps ++ after) place ∙ ap (λ l. before ++ l) (take-append-le place steps after (omega arith)) in
    let at : get_or (before ++ (steps ++ after)) (length before + place) b.found ≡ b.found =
    get_or-append-add before (steps ++ after) place b.found ∙ get_or-append steps after b.found place lt ∙ get_or_from_slice_get steps place b.found b.found b.stands in
    record {
      mid = b.mid;
      run = subst (λ l. Runs w l b.mid) (sym taken) (runs-append w v b.mid before (take place steps) run b.run);
      found = b.found;
      stands = slice_get-get_or (before ++ (steps ++ after)) (length before + place) b.found
          (let n = length-append before (steps ++ after) in let m = length-append steps after in omega arith)
          ∙ ap (λ x. Some x) at;
      answer = b.answer;
      after = b.after;
      step = b.step;
      other = b.other;
      memory = b.memory;
    }

-- what is broken in one of the lists is broken in all, joined
pub breaks_joined : {X : Type 0} (f : X → List Recorded) (w v : World) (xs : List X) (i : ℕ) (x : X) (n : ℕ) (fault : Rejoin) → i < length xs → x ≡ get_or xs i x
    → Runs w (flat_map f (take i xs)) v → n ≡ counted (length (flat_map f (take i xs))) → Breaks v n (f x) fault → Breaks w 0 (flat_map f xs) fault
breaks_joined f w v xs i x n (Broken number) lt at run is b = (
  length (flat_map f (take i xs)) + b.0,
  b.1 ∙ ap (λ m. counted (m + (b.0 + 1))) is ∙ counted_on (length (flat_map f (take i xs))) (b.0 + 1) ∙ ap counted (omega arith),
  subst (λ l. IsBrokenAt w l (length (flat_map f (take i xs)) + b.0)) (sym (around f xs i x lt at))
      (broken_within w v (flat_map f (take i xs)) (f x) (flat_map f (drop (i + 1) xs)) b.0 run b.2),
)
breaks_joined f w v xs i x n NoMemory lt at run is b = tt

-- taking at least as many as there are takes all
pub take_whole : {X : Type 0} (xs : List X) (i : ℕ) → length xs ≤ i → take i xs ≡ xs
take_whole [] zero h = refl
take_whole [] (suc i) h = refl
take_whole (x ∷ xs) zero h = absurd (omega arith)
take_whole (x ∷ xs) (suc i) h = ap (λ l. x ∷ l) (take_whole xs i (omega arith))

-- ---- one step of a list

-- a run up to a step, and that step with its answer, are a run up to the next
pub run_item : (w v u : World) (ss : List Recorded) (i : ℕ) (x : Recorded) (a : Answer) → i < length ss → x ≡ get_or ss i x → Runs w (take i ss) v
    → Step v x.now x.event a u → a ≡ x.answer → Runs w (take (i + 1) ss) u
run_item w v u ss i x a lt at run step is = run_take w v u ss i x a lt run (subst (λ (y : Recorded). Step v y.now y.event a u) at step) (is ∙ ap (λ (y : Recorded). y.answer) at)

-- a step that is answered otherwise, and not by out of memory, breaks the run at its place
pub broken_item : (w v u : World) (ss : List Recorded) (i : ℕ) (x : Recorded) (a : Answer) → i < length ss → x ≡ get_or ss i x → Runs w (take i ss) v
    → Step v x.now x.event a u → (a ≡ x.answer → ⊥) → (a ≡ Refused errno.Enomem → ⊥) → IsBrokenAt w ss i
broken_item w v u ss i x a lt at run step other memory = record {
  mid = v;
  run = run;
  found = x;
  stands = slice_get-get_or ss i x lt ∙ ap (λ y. Some y) (sym at);
  answer = a;
  after = u;
  step = step;
  other = other;
  memory = memory;
}

-- steps from the empty world are a run, which obeys the laws
pub laws_of : (negative first stride : ℕ) (ss : List Recorded) (w : World) → Runs (empty_world negative first stride) ss w
    → ContinuesTo (record { negative = negative; first = first; stride = stride }) (past_of ss []) w
laws_of negative first stride ss w runs =
    let from : Beginning = record { negative = negative; first = first; stride = stride } in
    let run = runs_on from [] (empty_world negative first stride) w ss refl runs in
    (run, lawful from (past_of ss []) w run)
