use Rattle.rk_served.proofs.Words.{refl, [], done, Launched, one_step, Failed}
use Rattle.rk_machine.specs.declared.event.Ran.TheVariants as ran
use Rattle.rk_served.specs.declared.happening.Happening.TheVariants as happening
use Rattle.rk_served.proofs.OwnSteps.{begins_quiet}
use Rattle.rk_served.proofs.server.Server.launch.Goals as goal

pub returns-in-Failed : goal.returns-in-Failed
returns-in-Failed c =
    rw c.in-Failed.is (begins_quiet c.args.occasion.now.conf.now c.args.occasion.now.moment (happening.StartResult c.args.key Failed) _ _ _
    (one_step c.args.occasion.now.moment (Launched c.args.key ran.Failed) done []) refl c.fail.ensures)
