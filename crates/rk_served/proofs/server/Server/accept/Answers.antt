use Rattle.rk_served.proofs.Words.{refl, ◌∙◌, sym, on_ok_weaker}
use Rattle.rk_served.proofs.OwnSteps.{accepted_one, refused_one}
use Rattle.rk_served.proofs.server.Server.accept.Goals as goal

pub returns : goal.returns
returns c conf =
    on_ok_weaker c.add.result
    (λ adds. accepted_one conf c.args.now c.args.client _ _ _ c.step-answer.result c.step-answer.ensures.step (sym c.is_refused.ensures
    ∙ c.if-is_refused.false) (rw c.new.ensures at adds))
    c.add.ensures.adds

pub returns-then-is_refused : goal.returns-then-is_refused
returns-then-is_refused c conf =
    refused_one conf c.args.now c.args.client _ _ _ c.step-answer.result c.step-answer.ensures.step (sym c.is_refused.ensures
    ∙ c.if-is_refused.true) refl _ c.in_ok-push.ensures.items
