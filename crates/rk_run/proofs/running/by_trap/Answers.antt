use Rattle.rk_run.proofs.Stories.{did_choke, did_leave}
use Rattle.rk_run.proofs.running.by_trap.Goals as goal

pub returns-in_default : goal.returns-in_default
returns-in_default g c = did_choke _ _ _ _

pub returns : goal.returns
returns g c = did_leave _ _ _ _ _ _ _ _ c.as_str.ensures.value c.in-Ok.ensures c.started.ensures
