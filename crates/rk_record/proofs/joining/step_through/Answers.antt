use Rattle.std.proofs.Common.{true≢false, sym, arith, ◌∙◌}
use Rattle.rk_record.proofs.Runs.{runs-none}
use Rattle.rk_record.proofs.Joins.{run_item, broken_item, count_one}
use Rattle.rk_record.proofs.joining.step_through.Goals as goal

pub loop-step-init : goal.loop-step-init
loop-step-init c = record { run = runs-none _; number = omega arith }

pub returns-then-not-equals-clause-broken : goal.returns-then-not-equals-clause-broken
returns-then-not-equals-clause-broken c =
    let step = c.in-Ok.ensures.step in (
      c.loop-step.step-index,
      c.saturating_add-number.ensures ∙ count_one _ _ _ c.loop-step.invariant.number,
      broken_item _ _ _ _ _ c.step-item.result _ c.loop-step-test.true c.step-item.is c.loop-step.invariant.run step (λ same. true≢false (sym (c.equals.ensures.1 same) ∙ c.if-not-equals.true))
          (λ want. true≢false (sym (c.is_want_of_memory.ensures.1 want) ∙ c.if-is_want_of_memory.false)),
    )

pub loop-step-preserved : goal.loop-step-preserved
loop-step-preserved c =
    let step = c.in-Ok.ensures.step in
    record {
      run = run_item _ _ _ _ _ c.step-item.result _ c.loop-step-test.true c.step-item.is c.loop-step.invariant.run step (c.equals.ensures.0 c.if-not-equals.false);
      number = c.saturating_add-number.ensures ∙ count_one _ _ _ c.loop-step.invariant.number;
    }
