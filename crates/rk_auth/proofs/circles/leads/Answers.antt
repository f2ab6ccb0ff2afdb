use Rattle.rk_auth.proofs.Words.{◌∙◌, sym, arith, both_ways, eq-eqb}
use Rattle.rk_auth.proofs.Walks.{walked}
use Rattle.rk_auth.proofs.circles.leads.Goals as goal

pub loop-step-preserved : goal.loop-step-preserved
loop-step-preserved c =
    walked _ _ _ _ _ _ _ (omega arith) (λ e. both_ways _ (sym c.eq.ensures ∙ c.if-eq.false) (eq-eqb _ _ e))
    (sym c.in-Some.is ∙ c.next_key.ensures) c.loop-step.invariant
