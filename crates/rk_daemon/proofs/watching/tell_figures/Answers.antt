use Rattle.rk_daemon.proofs.Lookings.{told_all}
use Rattle.rk_daemon.proofs.watching.tell_figures.Goals as goal

pub returns : goal.returns
returns g c = told_all _ _ _ _ _ _ _ _ _ _ _ c.clients-clients.ensures c.handlers-handlers.ensures c.in_halls-halls.ensures c.volumes-volumes.ensures c.tell.ensures
