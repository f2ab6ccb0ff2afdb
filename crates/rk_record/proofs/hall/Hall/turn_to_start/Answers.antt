use Rattle.std.proofs.Common.{◌≡◌, ◌≤◌, ◌+◌, true, Option, List, [], ◌∷◌, ◌++◌, length, subst, sym, ap, ◌∙◌, refl, arith, true≢false}
use Rattle.rk_machine.specs.Views.{is_owed}
use Rattle.rk_machine.proofs.OwedSteps.EachRecorded.{reached_recording}
use Rattle.rk_macro.specs.declared.subject.Subject.{Subject}
use Rattle.rk_record.specs.Copies.{FitsStart}
use Rattle.rk_record.specs.declared.recorded.Recorded.{Recorded}
use Rattle.rk_record.specs.Record.{HallShown}
use Rattle.rk_record.specs.Journal.{JournalShown}
use Rattle.rk_record.specs.Turns.{Turned, Noted}
use Rattle.rk_record.proofs.Runs.{sound_reached, sound_shown, sound_same, sound_next, count_next}
use Rattle.rk_record.proofs.Kept.{payload_room, ends_within, fits_start, idle_same, idle_keeps, is_prepared, few_ends, few_places, frees, counted_frees, counted_less, counted_same}
use Rattle.rk_record.proofs.hall.Hall.turn_to_start.Goals as goal

-- ---- before the step

pub prepare-requires-clause-room : goal.prepare-requires-clause-room
prepare-requires-clause-room c = λ is. rw c.self.invariant.owes_ends (payload_room c.self.inside.book c.args.event is)

pub prepare-requires-clause-ends : goal.prepare-requires-clause-ends
prepare-requires-clause-ends c =
    let i = c.self.invariant in
    let ends = i.owes_ends in
    let places = i.owes in
    let fits = i.fits in
    let least = i.least in
    let most = i.most in
    let within = ends_within c.self.inside.book in omega arith

pub returns-in_err-ready-clause-sound : goal.returns-in_err-ready-clause-sound
returns-in_err-ready-clause-sound c = rw c.in_err-ready.ensures.err (sound_shown _ _ _ c.self.invariant)

-- ---- what can't be recorded

pub keep-requires : goal.keep-requires
keep-requires c =
    let same = idle_same _ _ _ _ _ (sound_reached c.self.invariant) (rw c.in_ok-ready.ensures.ready.step at c.step_to_start-answer.ensures.step) c.in_default.ensures.none in
    rw (c.in_ok-ready.ensures.journal, c.of-kept.ensures.0, c.of-kept.ensures.1) (idle_keeps _ _ c.self.inside.journal same.1)

pub recorded_answer-requires : goal.recorded_answer-requires
recorded_answer-requires c =
    subst (λ (p : Option Subject × Option Subject). FitsStart p.0 c.step_to_start-answer.result) (sym c.into_pair-recorded.ensures)
    (fits_start _ _ _ _ _ _ (sound_reached c.self.invariant) c.step_to_start-answer.ensures.step c.step_to_start-answer.ensures.copies).0

pub invariant_of-self-in_default : goal.invariant_of-self-in_default
invariant_of-self-in_default c =
    let same = idle_same _ _ _ _ _ (sound_reached c.self.invariant) (rw c.in_ok-ready.ensures.ready.step at c.step_to_start-answer.ensures.step) c.in_default.ensures.none in
    rw (c.keep.ensures, c.in_ok-ready.ensures.journal, c.of-kept.ensures.0, c.of-kept.ensures.1) (sound_same _ _ _ _ _ _ _ _ _ same.0 c.self.invariant)

pub returns-in_default-clause-err : goal.returns-in_default-clause-err
returns-in_default-clause-err c =
    let same = idle_same _ _ _ _ _ (sound_reached c.self.invariant) (rw c.in_ok-ready.ensures.ready.step at c.step_to_start-answer.ensures.step) c.in_default.ensures.none in
    rw (c.keep.ensures, c.in_ok-ready.ensures.journal, same.0) c.self.view_is

pub returns-in_default-clause-sound : goal.returns-in_default-clause-sound
returns-in_default-clause-sound c = sound_shown _ _ _ (invariant_of-self-in_default c)

pub returns-in_default-clause-owed : goal.returns-in_default-clause-owed
returns-in_default-clause-owed c =
    λ is.
    let same = idle_same _ _ _ _ _ (sound_reached c.self.invariant) (rw c.in_ok-ready.ensures.ready.step at c.step_to_start-answer.ensures.step) c.in_default.ensures.none in
    let owes : is_owed c.self.inside.book c.args.event ≡ true = ap (λ (h : HallShown). is_owed h.world c.args.event) c.self.view_is ∙ is in
    absurd (true≢false (sym owes ∙ same.1))

-- ---- what is kept

pub push-requires : goal.push-requires
push-requires c =
    let i = c.self.invariant in
    rw c.in_ok-ready.ensures.journal ((is_prepared _ _ _ _ _ c.self.inside.journal (sound_reached i) (rw c.in_ok-ready.ensures.ready.step at c.step_to_start-answer.ensures.step) i.owes i.owes_ends).one)

pub overflow_sub-kept : goal.overflow_sub-kept
overflow_sub-kept c =
    let i = c.self.invariant in
    rw (
      c.owed_to-owed.ensures.places,
      c.owed_to-left.ensures.places,
      c.is_ask-asks.ensures,
      c.whose-whose.ensures,
      c.of-kept.ensures.0,
      c.wait_owes.ensures,
      c.start_owes.ensures,
    )
    (counted_frees _ _ _ _ _ c.self.inside.journal (sound_reached i) (rw c.in_ok-ready.ensures.ready.step at c.step_to_start-answer.ensures.step) i.owes i.owes_ends)

pub overflow_add-kept-2 : goal.overflow_add-kept-2
overflow_add-kept-2 c =
    let i = c.self.invariant in
    let places = i.owes in
    let fits = i.fits in
    let least = i.least in
    let most = i.most in
    rw (c.owed_to-left.ensures.places, c.is_ask-asks.ensures, c.whose-whose.ensures, c.of-kept.ensures.0, c.wait_owes.ensures, c.start_owes.ensures)
    (let less = (counted_less _ _ _ _ _ (sound_reached i) (rw c.in_ok-ready.ensures.ready.step at c.step_to_start-answer.ensures.step)).1 in
    let few = few_places _ _ _ _ _ c.self.inside.journal (sound_reached i) (rw c.in_ok-ready.ensures.ready.step at c.step_to_start-answer.ensures.step) i.owes i.owes_ends
    (omega arith) in omega arith)

pub overflow_add-kept-3 : goal.overflow_add-kept-3
overflow_add-kept-3 c =
    let i = c.self.invariant in
    let places = i.owes in
    let fits = i.fits in
    let least = i.least in
    let most = i.most in
    rw (c.owed_to-left.ensures.ends, c.whose-whose.ensures, c.of-kept.ensures.1)
    (let few = (few_ends _ _ _ _ _ c.self.inside.journal (sound_reached i) (rw c.in_ok-ready.ensures.ready.step at c.step_to_start-answer.ensures.step) i.owes_ends (omega arith)).0 in omega arith)

pub overflow_add-kept-4 : goal.overflow_add-kept-4
overflow_add-kept-4 c =
    let i = c.self.invariant in
    let places = i.owes in
    let fits = i.fits in
    let least = i.least in
    let most = i.most in
    rw (c.owed_to-left.ensures.ends, c.whose-whose.ensures, c.of-kept.ensures.1, c.start_ends.ensures)
    (let few = (few_ends _ _ _ _ _ c.self.inside.journal (sound_reached i) (rw c.in_ok-ready.ensures.ready.step at c.step_to_start-answer.ensures.step) i.owes_ends (omega arith)).1 in omega arith)

pub overflow_sub-kept-2 : goal.overflow_sub-kept-2
overflow_sub-kept-2 c =
    let i = c.self.invariant in
    rw (c.owed_to-owed.ensures.ends, c.owed_to-left.ensures.ends, c.whose-whose.ensures, c.of-kept.ensures.1, c.start_ends.ensures)
    ((frees _ _ _ _ _ c.self.inside.journal (sound_reached i) (rw c.in_ok-ready.ensures.ready.step at c.step_to_start-answer.ensures.step) i.owes i.owes_ends).1)

pub keep-requires-2 : goal.keep-requires-2
keep-requires-2 c =
    let i = c.self.invariant in
    let p = is_prepared _ _ _ _ _ c.self.inside.journal (sound_reached i) (rw c.in_ok-ready.ensures.ready.step at c.step_to_start-answer.ensures.step) i.owes i.owes_ends in
    rw (
      c.push.ensures,
      c.in_ok-ready.ensures.journal,
      c.owed_to-owed.ensures.places,
      c.owed_to-owed.ensures.ends,
      c.owed_to-left.ensures.places,
      c.owed_to-left.ensures.ends,
      c.is_ask-asks.ensures,
      c.whose-whose.ensures,
      c.of-kept.ensures.0,
      c.of-kept.ensures.1,
      c.wait_owes.ensures,
      c.start_owes.ensures,
      c.start_ends.ensures,
      counted_same _ _ _ _ _ c.self.inside.journal.reserved (sound_reached i) (rw c.in_ok-ready.ensures.ready.step at c.step_to_start-answer.ensures.step),
    ) (p.reserved, p.ends)

-- ---- the step is recorded

pub started_subject-subject-requires : goal.started_subject-subject-requires
started_subject-subject-requires c =
    subst (λ (p : Option Subject × Option Subject). FitsStart p.1 c.step_to_start-answer.result) (sym c.into_pair-recorded.ensures)
    (fits_start _ _ _ _ _ _ (sound_reached c.self.invariant) c.step_to_start-answer.ensures.step c.step_to_start-answer.ensures.copies).1

pub invariant_of-self-2 : goal.invariant_of-self-2
invariant_of-self-2 c =
    let i = c.self.invariant in
    let p = is_prepared _ _ _ _ _ c.self.inside.journal (sound_reached i) (rw c.in_ok-ready.ensures.ready.step at c.step_to_start-answer.ensures.step) i.owes i.owes_ends in
    let fits = subst (λ (k : JournalShown). length k.steps + k.reserved ≤ k.places) c.in_ok-ready.ensures.journal c.in_ok-ready.ensures.fits in
    rw (
      c.keep-2.ensures,
      c.push.ensures,
      c.in_ok-ready.ensures.journal,
      c.recorded_event.ensures,
      c.in_ok-ready.ensures.ready.copy,
      c.in-Some.ensures.copy.0,
      c.owed_to-owed.ensures.places,
      c.owed_to-owed.ensures.ends,
      c.owed_to-left.ensures.places,
      c.owed_to-left.ensures.ends,
      c.is_ask-asks.ensures,
      c.whose-whose.ensures,
      c.of-kept.ensures.0,
      c.of-kept.ensures.1,
      c.wait_owes.ensures,
      c.start_owes.ensures,
      c.start_ends.ensures,
      counted_same _ _ _ _ _ c.self.inside.journal.reserved (sound_reached i) (rw c.in_ok-ready.ensures.ready.step at c.step_to_start-answer.ensures.step),
    )
    (sound_next _ _ _ _ _ _ _ _ _ _ _ _ _ i (rw c.in_ok-ready.ensures.ready.step at c.step_to_start-answer.ensures.step) p.reserved p.one fits)

pub returns-clause-ok : goal.returns-clause-ok
returns-clause-ok c =
    let h = c.self.inside in
    let old : HallShown = record {
      no = h.no;
      opening = h.opening.value;
      before = h.before;
      index = h.index;
      limit = h.limit;
      places = h.journal.places;
      world = h.book;
      steps = h.journal.steps;
    } in
    let s : Recorded = record { now = c.args.now; event = c.args.event; answer = c.step_to_start-answer.result } in
    let steps : c.keep-2.new.self.steps ≡ h.journal.steps ++ s ∷ [] =
    rw (c.keep-2.ensures, c.push.ensures, c.in_ok-ready.ensures.journal, c.recorded_event.ensures, c.in_ok-ready.ensures.ready.copy, c.in-Some.ensures.copy.0) refl in
    let places : c.keep-2.new.self.places ≡ h.journal.places = rw (c.keep-2.ensures, c.push.ensures, c.in_ok-ready.ensures.journal) refl in
    let known = reached_recording _ _ _ _ _ (sound_reached c.self.invariant) (rw c.in_ok-ready.ensures.ready.step at c.step_to_start-answer.ensures.step) in
    let new : HallShown = record {
      no = h.no;
      opening = h.opening.value;
      before = h.before;
      index = h.index;
      limit = h.limit;
      places = c.keep-2.new.self.places;
      world = c.step_to_start-answer.new.self;
      steps = c.keep-2.new.self.steps;
    } in
    let noted : Noted = record {
      hall = h.no;
      volume = h.index;
      number = h.before + length c.steps.result.now;
      moment = c.args.now;
      told = c.in_ok-ready.ready.told;
      answer = c.step_to_start-answer.result;
    } in
    let turned : Turned old c.args.now c.args.event noted new = record {
      step = (rw c.in_ok-ready.ensures.ready.step at c.step_to_start-answer.ensures.step);
      steps = steps;
      same = λ i. record old { places = places i; world = c.step_to_start-answer.new.self; steps = c.keep-2.new.self.steps };
      hall = refl;
      volume = refl;
      number = ap (λ (xs : List Recorded). h.before + length xs) (c.steps.ensures ∙ steps) ∙ count_next h.before h.journal.steps s;
      moment = refl;
      told = c.in_ok-ready.ensures.ready.told;
      laws = (rw c.in_ok-ready.ensures.ready.step at c.step_to_start-answer.ensures.laws);
      memory = λ lack. c.in-Some.ensures.copy.1 (c.in-Some.ensures.copy.0 ∙ lack);
      answer = known.owed_answer;
      balance = known.counted;
    } in
    subst (λ (x : HallShown). Turned x c.args.now c.args.event noted new) c.self.view_is turned

pub returns-clause-sound : goal.returns-clause-sound
returns-clause-sound c = sound_shown _ _ _ (invariant_of-self-2 c)
