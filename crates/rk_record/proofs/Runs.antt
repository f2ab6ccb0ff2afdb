-- Runs that go on, and what a hall keeps of them.
use Rattle.std.proofs.Common.{◌≡◌, ℕ, ◌+◌, ◌-◌, ◌≤◌, ◌<◌, ◌^◌, List, [], ◌∷◌, ◌++◌, length, refl, sym, subst, arith, Bool, true, false, if◌then◌else◌, length-append}
use Rattle.std.specs.Prelude.{nat_le}
use Rattle.std.proofs.lemmas.Bool.Decides.{nat_tests}
use Rattle.rk_machine.specs.Event.{Event}
use Rattle.rk_machine.specs.declared.event.Answer.{Answer}
use Rattle.rk_machine.specs.World.{World, empty_world}
use Rattle.rk_machine.specs.Steps.{Beginning, Past, Step, Run}
use Rattle.rk_machine.specs.Owing.{owed_to, ends_owed_to, whose, start_owes, start_ends}
use Rattle.rk_machine.specs.Recording.{Reached, Recording}
use Rattle.rk_machine.proofs.EveryRun.KeepsLaws.{lawful}
use Rattle.rk_machine.proofs.OwedSteps.EachRecorded.{reached_recording, empty_owes, no_ends}
use Rattle.rk_record.specs.declared.recorded.Recorded.{Recorded}
use Rattle.rk_record.specs.Record.{IsRecord, HallShown, Runs, IsReached, GoesOn, past_of, past_step, IsSound, places_after}

-- a run and one more step are a run
pub runs-snoc : (w v u : World) (ss : List Recorded) (s : Recorded) → Runs w ss v → Step v s.now s.event s.answer u → Runs w (ss ++ s ∷ []) u
unfolding Runs
runs-snoc w v u [] s run step = (u, subst (λ x. Step x s.now s.event s.answer u) (sym run) step, refl)
runs-snoc w v u (x ∷ xs) s run step = (run.0, run.1, runs-snoc run.0 v u xs s run.2 step)

-- a run without steps leads from a world to itself
pub runs-none : (w : World) → Runs w [] w
unfolding Runs
runs-none w = refl

-- after what led there
pub runs_on : (from : Beginning) (past : List Past) (w v : World) (ss : List Recorded) → Run from past w → Runs w ss v → Run from (past_of ss past) v
unfolding Runs
runs_on from past w v [] run on = subst (Run from past) on run
runs_on from past w v (s ∷ ss) run on = runs_on from (past_step s ∷ past) on.0 v ss (w, run, on.1) on.2

-- there are so many steps more
length-past_of : (ss : List Recorded) (past : List Past) → length (past_of ss past) ≡ length past + length ss
length-past_of [] past = omega arith
length-past_of (s ∷ ss) past = let n = length-past_of ss (past_step s ∷ past) in omega arith

-- if a run leads, it goes on with the steps that lead on from there
pub reached_on : (before : ℕ) (w v : World) (ss : List Recorded) → IsReached before w → Runs w ss v → IsReached (before + length ss) v
reached_on before w v ss r on = record {
  from = r.from;
  past = past_of ss r.past;
  counted = (let n = length-past_of ss r.past in let m = r.counted in omega arith);
  run = runs_on r.from r.past w v ss r.run on;
}

-- and obeys the laws
pub goes_on : (before : ℕ) (w v : World) (ss : List Recorded) → IsReached before w → Runs w ss v → GoesOn before w ss v
goes_on before w v ss r on = let longer = runs_on r.from r.past w v ss r.run on in (r, (longer, lawful r.from (past_of ss r.past) v longer))

-- ---- what a hall keeps

-- a run leads to the world of a sound record
pub sound_reached : {o : World} {before limit places : ℕ} {w : World} {steps : List Recorded} {reserved ends : ℕ}
    → IsSound o before limit places w steps reserved ends → Reached w
sound_reached {o} {before} {limit} {places} {w} {steps} s = let r = reached_on before o w steps s.opened s.runs in (r.from, r.past, r.run)

-- an empty record of at most 1,048,576 places is sound
pub sound_none : (negative first stride places : ℕ) → places ≤ 1048576
    → IsSound (empty_world negative first stride) 0 places places (empty_world negative first stride) [] 0 0
sound_none negative first stride places most = record {
  opened = record { from = record { negative = negative; first = first; stride = stride }; past = []; counted = refl; run = refl };
  runs = runs-none _;
  owes = sym (empty_owes negative first stride);
  owes_ends = sym (no_ends negative first stride);
  fits = omega arith;
  numbers = omega arith;
  least = omega arith;
  most = most;
}

-- by a step, if there is room for it and for what is owed after it
pub sound_next : (o : World) (before limit places : ℕ) (w v : World) (steps : List Recorded) (reserved ends room now : ℕ) (e : Event) (a : Answer)
    → IsSound o before limit places w steps reserved ends → Step w now e a v
    → reserved + owed_to v (whose e) + start_owes a - owed_to w (whose e) ≤ room - 1 → 1 ≤ room → length steps + room ≤ places
    → IsSound o before limit places v (steps ++ record { now = now; event = e; answer = a } ∷ [])
    (reserved + owed_to v (whose e) + start_owes a - owed_to w (whose e)) (ends + ends_owed_to v (whose e) + start_ends a - ends_owed_to w (whose e))
sound_next o before limit places w v steps reserved ends room now e a s step le one fits =
    let b : Recording w e a v = reached_recording w now e a v (sound_reached s) step in
    let p = b.places in
    let q = b.ends in
    let r = s.owes in
    let t = s.owes_ends in
    let n = length-append steps (record { now = now; event = e; answer = a } ∷ []) in
    record {
      opened = s.opened;
      runs = runs-snoc o w v steps (record { now = now; event = e; answer = a }) s.runs step;
      owes = omega arith;
      owes_ends = omega arith;
      fits = omega arith;
      numbers = s.numbers;
      least = s.least;
      most = s.most;
    }

-- a sound record is sound of an equal world
pub sound_same : (o : World) (before limit places : ℕ) (w v : World) (steps : List Recorded) (reserved ends : ℕ) → v ≡ w
    → IsSound o before limit places w steps reserved ends → IsSound o before limit places v steps reserved ends
sound_same o before limit places w v steps reserved ends is s = subst (λ x. IsSound o before limit places x steps reserved ends) (sym is) s

-- what is known of a hall by what it keeps
pub sound_shown : (h : HallShown) (reserved ends : ℕ) → IsSound h.opening h.before h.limit h.places h.world h.steps reserved ends → IsRecord h
sound_shown h reserved ends s = record {
  runs = s.runs;
  goes_on = goes_on h.before h.opening h.world h.steps s.opened s.runs;
  laws = λ from past run. let longer = runs_on from past h.opening h.world h.steps run s.runs in (longer, lawful from (past_of h.steps past) h.world longer);
  fits = (let a = s.owes in let b = s.fits in omega arith);
  numbers = s.numbers;
  least = s.least;
  most = s.most;
}

-- one more recorded step is counted as one
pub count_next : (before : ℕ) (steps : List Recorded) (s : Recorded) → before + length (steps ++ s ∷ []) ≡ before + length steps + 1
count_next before steps s = omega (arith, length-append steps (s ∷ []))

-- ---- the next volume

pub places_fit : (limit before : ℕ) → before ≤ 2 ^ 61 → (before + places_after limit before ≤ 2 ^ 61) × (places_after limit before ≤ limit)
places_fit limit before le = by_test (nat_le limit (2 ^ 61 - before)) refl
  where
    by_test : (b : Bool) → nat_le limit (2 ^ 61 - before) ≡ b
        → (before + (if b then limit else 2 ^ 61 - before) ≤ 2 ^ 61) × ((if b then limit else 2 ^ 61 - before) ≤ limit)
    by_test true is = let fits : limit ≤ 2 ^ 61 - before = grind (arith, nat_tests) in (omega arith, omega arith)
    by_test false is = let past : 2 ^ 61 - before < limit = grind (arith, nat_tests) in (omega arith, omega arith)

-- the next volume is sound where it has places for what is owed
pub sound_rolled : (o : World) (before limit places : ℕ) (w : World) (steps : List Recorded) (reserved ends : ℕ) → IsSound o before limit places w steps reserved ends
    → reserved ≤ places_after limit (before + length steps)
    → IsSound w (before + length steps) limit (places_after limit (before + length steps)) w [] reserved ends
sound_rolled o before limit places w steps reserved ends s fits =
    let f = s.fits in
    let n = s.numbers in
    let fit = places_fit limit (before + length steps) (omega arith) in
    record {
      opened = reached_on before o w steps s.opened s.runs;
      runs = runs-none w;
      owes = s.owes;
      owes_ends = s.owes_ends;
      fits = omega arith;
      numbers = fit.0;
      least = fit.1;
      most = s.most;
    }
