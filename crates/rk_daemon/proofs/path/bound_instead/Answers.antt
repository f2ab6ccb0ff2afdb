use Rattle.std.proofs.Common.{None}
use Rattle.rk_daemon.proofs.Stories.{no_ok}
use Rattle.rk_daemon.proofs.Takings.{could_not_remove, left_it, left_other, replaced_it}
use Rattle.rk_daemon.proofs.path.bound_instead.Goals as goal

pub returns-in_err-is_left_over : goal.returns-in_err-is_left_over
returns-in_err-is_left_over g c =
    rw (no_ok c.from_residual.result c.from_residual.ensures.0) (left_it _ None _ _ c.in_err-is_left_over.ensures (λ is. absurd (cc)))

pub returns-then-not-is_left_over : goal.returns-then-not-is_left_over
returns-then-not-is_left_over g c = left_other _ _ _ _ c.in_ok-is_left_over.ensures c.if-not-is_left_over.true

pub returns-in_err-remove : goal.returns-in_err-remove
returns-in_err-remove g c =
    rw (no_ok c.from_residual-in_err-remove.result c.from_residual-in_err-remove.ensures.0)
    (could_not_remove _ _ _ _ c.in_ok-is_left_over.ensures c.if-not-is_left_over.false _ c.in_err-remove.ensures)

pub returns : goal.returns
returns g c = replaced_it _ _ _ _ c.in_ok-is_left_over.ensures c.if-not-is_left_over.false _ _ _ c.in_ok-remove.ensures c.bind.ensures
