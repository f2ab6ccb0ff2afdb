use Rattle.rk_daemon.proofs.Stories.{no_ok}
use Rattle.rk_daemon.proofs.Takings.{not_permitted, permitted_first}
use Rattle.rk_daemon.proofs.path.ready.Goals as goal

pub returns-in_err-permit : goal.returns-in_err-permit
returns-in_err-permit g c = rw (no_ok c.from_residual.result c.from_residual.ensures.0) (not_permitted _ _ _ _ c.in_err-permit.ensures)

pub returns : goal.returns
returns g c = permitted_first _ _ _ _ _ _ c.in_ok-permit.ensures c.listen.ensures
