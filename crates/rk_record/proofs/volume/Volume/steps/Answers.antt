use Rattle.std.proofs.Common.{subst}
use Rattle.rk_record.specs.Record.{GoesOn}
use Rattle.rk_record.specs.Volumes.{VolumeShown}
use Rattle.rk_record.proofs.Runs.{goes_on}
use Rattle.rk_record.proofs.volume.Volume.steps.Goals as goal

pub returns-clause-goes_on : goal.returns-clause-goes_on
returns-clause-goes_on c =
    subst (λ (v : VolumeShown). GoesOn v.before v.opening v.steps v.closing) c.self.view_is (goes_on _ _ _ _ c.self.invariant.opened c.self.invariant.runs)
