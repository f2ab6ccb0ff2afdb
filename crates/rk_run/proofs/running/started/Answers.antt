use Rattle.std.proofs.Common.{ap, refl, Some, Ok}
use Rattle.rk_run.proofs.Stories.{did_not_start, did_end}
use Rattle.rk_run.proofs.running.started.Goals as goal

pub returns-in-Err : goal.returns-in-Err
returns-in-Err g c = rw c.unstarted_by.ensures (did_not_start _ _ _ _ c.in-Err.ensures)

pub returns-in-Some : goal.returns-in-Some
returns-in-Some g c = did_end _ _ _ _ (Some c.in-Some.status) _ c.in_default.ensures c.in-Some.ensures (ap Ok c.status_of.ensures)

pub returns-in-None : goal.returns-in-None
returns-in-None g c = did_end _ _ _ _ _ _ c.in_default.ensures c.in-None.ensures refl
