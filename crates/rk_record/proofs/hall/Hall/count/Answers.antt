use Rattle.std.proofs.Common.{subst}
use Rattle.rk_record.specs.Record.{IsRecord}
use Rattle.rk_record.proofs.Runs.{sound_shown}
use Rattle.rk_record.proofs.hall.Hall.count.Goals as goal

pub returns-clause-sound : goal.returns-clause-sound
returns-clause-sound c = subst IsRecord c.self.view_is (sound_shown _ _ _ c.self.invariant)
