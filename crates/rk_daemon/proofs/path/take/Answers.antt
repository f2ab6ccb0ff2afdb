use Rattle.rk_daemon.proofs.Takings.{none_taken, was_barred, was_taken, was_unopened}
use Rattle.rk_daemon.proofs.path.take.Goals as goal

pub returns-in_err-socket : goal.returns-in_err-socket
returns-in_err-socket g c = rw (none_taken c.from_residual.result c.from_residual.ensures.0) (was_barred _ _ _ _ c.in_err-socket.ensures)

pub returns-in_err-listener : goal.returns-in_err-listener
returns-in_err-listener g c =
    rw (none_taken c.from_residual-in_err-listener.result c.from_residual-in_err-listener.ensures.0)
    (was_unopened _ _ _ _ _ c.in_ok-socket.ensures c.in_err-listener.ensures)

pub returns-in_err-file : goal.returns-in_err-file
returns-in_err-file g c =
    rw (none_taken c.from_residual-in_err-file.result c.from_residual-in_err-file.ensures.0)
    (was_taken _ _ _ _ _ _ _ c.in_ok-socket.ensures c.in_ok-listener.ensures c.in_err-file.ensures)

pub returns : goal.returns
returns g c = was_taken _ _ _ _ _ _ _ c.in_ok-socket.ensures c.in_ok-listener.ensures c.in_ok-file.ensures
