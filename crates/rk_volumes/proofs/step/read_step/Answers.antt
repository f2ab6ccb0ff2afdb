use Rattle.rk_volumes.proofs.Words.{ap, ◌≡◌, length, arith, rules, err_from_is_err_and, Err}
use Rattle.rk_volumes.specs.declared.fault.Unread.TheVariants.{Bad}
use Rattle.rk_volumes.proofs.Steps.{no_moment, no_event_frame, no_event_there, no_answer_frame, no_answer_there, step_is}
use Rattle.rk_volumes.proofs.step.read_step.Goals as goal

pub returns-in_default-clause-none : goal.returns-in_default-clause-none
returns-in_default-clause-none c = λ _. no_moment c.args.bytes.now c.in_default.ensures

pub returns-in_default-framed-clause-none : goal.returns-in_default-framed-clause-none
returns-in_default-framed-clause-none c =
    λ _. no_event_frame c.args.bytes.now c.in-Some.rest.now c.in-Some.now (search rules) c.in-Some.ensures c.in_default-framed.ensures.only

pub returns-in_default-framed-2-clause-none : goal.returns-in_default-framed-2-clause-none
returns-in_default-framed-2-clause-none c =
    let event = c.in-Some-framed in
    λ _. no_answer_frame c.args.bytes.now c.in-Some.rest.now event.event.now event.rest.now c.in-Some.now (search rules) event.ensures.found.1
    c.in-Some.ensures event.ensures.found.0 c.in_default-framed-2.ensures.only

pub returns-in_err-read_event-clause-none : goal.returns-in_err-read_event-clause-none
returns-in_err-read_event-clause-none c =
    let event = c.in-Some-framed in
    let p = err_from_is_err_and c.from_residual.result c.from_residual.ensures.1 in
    rw (p.1, p.2) (λ e. let bad : c.in_err-read_event.field-0.0 ≡ Bad = cc in
    no_event_there c.args.bytes.now c.in-Some.rest.now event.event.now event.rest.now c.in-Some.now (search rules) event.ensures.found.1
    c.in-Some.ensures event.ensures.found.0 (c.in_err-read_event.ensures.none (ap Err bad)))

pub returns-in_err-read_answer-clause-none : goal.returns-in_err-read_answer-clause-none
returns-in_err-read_answer-clause-none c =
    let event = c.in-Some-framed in
    let answer = c.in-Some-framed-2 in
    let p = err_from_is_err_and c.from_residual-in_err-read_answer.result c.from_residual-in_err-read_answer.ensures.1 in
    rw (p.1, p.2) (λ e. let bad : c.in_err-read_answer.field-0.0 ≡ Bad = cc in
    no_answer_there c.args.bytes.now c.in-Some.rest.now event.event.now event.rest.now answer.answer.now answer.rest.now c.in-Some.now (search rules)
    event.ensures.found.1 answer.ensures.found.1 c.in-Some.ensures event.ensures.found.0 answer.ensures.found.0
    (c.in_err-read_answer.ensures.none (ap Err bad)))

pub returns-clause-is : goal.returns-clause-is
returns-clause-is c =
    let event = c.in-Some-framed in
    let answer = c.in-Some-framed-2 in
    let e = c.in_ok-read_event.ensures.is in
    let a = c.in_ok-read_answer.ensures.is in (
      record {
        now = search rules;
        event = e.0;
        event_told = omega (arith, event.ensures.found.1, ap length e.1);
        answer = a.0;
        answer_told = omega (arith, answer.ensures.found.1, ap length a.1);
      },
      step_is c.args.bytes.now c.in-Some.rest.now event.rest.now answer.rest.now event.event.now answer.answer.now _ c.in-Some.ensures event.ensures.found.0
          answer.ensures.found.0 e.1 a.1,
    )
