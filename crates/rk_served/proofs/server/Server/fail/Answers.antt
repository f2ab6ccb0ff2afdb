use Rattle.rk_served.proofs.Words.{[], done, Launched}
use Rattle.rk_machine.specs.declared.event.Ran.TheVariants.{Failed}
use Rattle.rk_served.proofs.PeersFit.{launch_done}
use Rattle.rk_served.proofs.OwnSteps.{steps_by}
use Rattle.rk_served.proofs.server.Server.fail.Goals as goal

pub returns : goal.returns
returns c = (
  steps_by c.args.now (Launched c.args.key Failed) _ _ c.step.result done [] (launch_done _ _ _ _ _ _ c.requires c.step.ensures.step) c.step.ensures.step,
  c.remove.ensures.without,
)
