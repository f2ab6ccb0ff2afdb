use Rattle.std.proofs.Common.{ap}
use Rattle.rk_session.proofs.answering.greeted.Goals as goal

pub returns-clause-context : goal.returns-clause-context
returns-clause-context g c = ap (λ done. record c.args.place.now { greeted = done }) c.is_done-place.ensures
