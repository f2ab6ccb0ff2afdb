use Rattle.rk_served.proofs.Words.{[], Client, done, Gone}
use Rattle.rk_served.proofs.PeersFit.{gone_done}
use Rattle.rk_served.proofs.OwnSteps.{steps_by}
use Rattle.rk_served.proofs.server.Server.leave.Goals as goal

pub returns : goal.returns
returns c = (
  steps_by c.args.now (Gone (Client c.args.client)) _ _ c.step.result done [] (gone_done _ _ _ _ _ c.requires c.step.ensures.step) c.step.ensures.step,
  c.remove.ensures.without,
)
