use Rattle.rk_daemon.proofs.Takings.{opened_it, withdrew}
use Rattle.rk_daemon.proofs.path.opened.Goals as goal

pub returns-in-Ok : goal.returns-in-Ok
returns-in-Ok g c = opened_it _ _ _ _ c.in-Ok.ensures

pub returns-in-Err : goal.returns-in-Err
returns-in-Err g c = withdrew _ _ _ _ _ _ c.in-Err.ensures c.remove.ensures
