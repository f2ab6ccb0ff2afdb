use Rattle.rk_served.proofs.Words.{on_ok_weaker}
use Rattle.rk_served.proofs.OwnSteps.{ends_last, ends_followed}
use Rattle.rk_served.proofs.server.Server.end.Goals as goal

pub returns-in_default : goal.returns-in_default
returns-in_default c k peers ended =
    ends_last c.args.occasion.now.conf.now c.args.occasion.now.moment k c.args.event c.args.subject peers _ ended c.step.result c.step.new.self c.step.ensures.step
    c.in_default.not-Negate c.args.out.now.items

pub returns-in-Some : goal.returns-in-Some
returns-in-Some c k peers ended =
    on_ok_weaker c.start.result (λ starts.
    ends_followed c.args.occasion.now.conf.now c.args.occasion.now.moment k c.args.event c.args.subject peers _ ended c.step.result c.step.new.self c.step.ensures.step
    c.in-Negate.key c.in-Negate.is c.in-Some.subject c.in-Some.is c.args.out.now.items _ _ (rw c.negated.ensures at starts))
    c.start.ensures
