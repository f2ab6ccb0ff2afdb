use Rattle.std.proofs.Common.{subst}
use Rattle.rk_record.specs.Record.{GoesOn}
use Rattle.rk_record.specs.Volumes.{VolumeShown}
use Rattle.rk_hall.proofs.volume.Volume.steps.Goals as goal

pub returns-clause-goes_on : goal.returns-clause-goes_on
returns-clause-goes_on g c = subst (λ (v : VolumeShown). GoesOn v.before v.opening v.steps v.closing) c.self.view_is c.steps.ensures.goes_on
