use Rattle.rk_rejoin.proofs.Words.{List, length, ap, ◌∙◌, inl, inr, arith, err_from_is_err_and, Recorded, counted, of_hall}
use Rattle.rk_rejoin.proofs.Joined.{as_many, flat_steps}
use Rattle.rk_rejoin.proofs.Told.{run_of, broken_of, breaks_at, numbered, hall_broken}
use Rattle.rk_rejoin.proofs.judging.judge_hall.Goals as goal

pub returns-in-Ok-clause-is : goal.returns-in-Ok-clause-is
returns-in-Ok-clause-is c =
    let vs = of_hall c.args.hall c.args.volumes.now in
    let had = c.in_ok-steps.ensures in
    let ls = c.in_ok-steps.steps.items in
    let flat = flat_steps c.deref.result.now ls vs c.deref.ensures.value had.steps in
    let run = c.in-Ok.ensures.run in
    record {
      next = had.next;
      volumes = omega (arith, c.len.ensures, as_many ls vs had.steps);
      steps = c.in-Ok.ensures.count ∙ ap (λ (l : List Recorded). counted (length l)) flat;
      chained = c.in_ok-closed.ensures.chained;
      closed = c.in_ok-closed.ensures.closed;
      world = run.0;
      run = run_of c.limits_of.result c.args.negative c.args.hall _ _ run.0 c.limits_of.ensures flat run.1;
    }

pub broken_at-requires-clause-within : goal.broken_at-requires-clause-within
broken_at-requires-clause-within c =
    let vs = of_hall c.args.hall c.args.volumes.now in
    let had = c.in_ok-steps.ensures in
    let flat = flat_steps c.deref.result.now c.in_ok-steps.steps.items vs c.deref.ensures.value had.steps in
    let at = breaks_at _ _ c.in-Err-Broken.field-0 c.in-Err-Broken.number c.in-Err-Broken.field-0-is c.in-Err-Broken.ensures.broken in
    let number = numbered _ _ c.in-Err-Broken.number at.0 at.1 (omega (arith, ap length flat, had.count)) at.2 in
    (omega (arith, number.0), omega (arith, number.1, ap length flat))

pub returns-in-Err-Broken-clause-refused : goal.returns-in-Err-Broken-clause-refused
returns-in-Err-Broken-clause-refused c =
    let vs = of_hall c.args.hall c.args.volumes.now in
    let had = c.in_ok-steps.ensures in
    let flat = flat_steps c.deref.result.now c.in_ok-steps.steps.items vs c.deref.ensures.value had.steps in
    let at = breaks_at _ _ c.in-Err-Broken.field-0 c.in-Err-Broken.number c.in-Err-Broken.field-0-is c.in-Err-Broken.ensures.broken in
    let number = numbered _ _ c.in-Err-Broken.number at.0 at.1 (omega (arith, ap length flat, had.count)) at.2 in
    inr (inr (hall_broken c.args.negative c.args.hall c.args.volumes.now c.in-Err-Broken.number at.0 c.broken_at.result had.next number.0
    (broken_of c.limits_of.result c.args.negative c.args.hall _ _ at.0 c.limits_of.ensures flat at.2) c.broken_at.ensures))

pub returns-in_err-closed-clause-refused : goal.returns-in_err-closed-clause-refused
returns-in_err-closed-clause-refused c =
    let p = err_from_is_err_and c.from_residual-in_err-closed.result c.from_residual-in_err-closed.ensures.1 in
    rw (p.1, p.2) (inr (inl c.in_err-closed.ensures.refused))
