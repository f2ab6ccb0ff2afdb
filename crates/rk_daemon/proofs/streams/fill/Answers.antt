use Rattle.rk_daemon.proofs.Fillings.{both_filled, no_input, no_output}
use Rattle.rk_daemon.proofs.Stories.{no_ok}
use Rattle.rk_daemon.proofs.streams.fill.Goals as goal

pub returns-in_err-input : goal.returns-in_err-input
returns-in_err-input g c = rw (no_ok c.from_residual.result c.from_residual.ensures.0) (no_input _ _ c.in_err-input.ensures)

pub returns-in_err-output : goal.returns-in_err-output
returns-in_err-output g c =
    rw (no_ok c.from_residual-in_err-output.result c.from_residual-in_err-output.ensures.0) (no_output _ _ _ c.in_ok-input.ensures c.in_err-output.ensures)

pub returns-in_err-errors : goal.returns-in_err-errors
returns-in_err-errors g c =
    rw (no_ok c.from_residual-in_err-errors.result c.from_residual-in_err-errors.ensures.0)
    (both_filled _ _ _ _ _ c.in_ok-input.ensures c.in_ok-output.ensures c.in_err-errors.ensures)

pub returns : goal.returns
returns g c = both_filled _ _ _ _ _ c.in_ok-input.ensures c.in_ok-output.ensures c.in_ok-errors.ensures
