use Rattle.rk_daemon.proofs.Keepings.{did_not_name, named_it, named_nothing}
use Rattle.rk_daemon.proofs.Stories.{no_value}
use Rattle.rk_daemon.proofs.record.named.Goals as goal

pub returns-in_err-sum : goal.returns-in_err-sum
returns-in_err-sum g c = rw (c.in_err-sum.was, no_value c.from_residual.result c.from_residual.ensures.0) (named_nothing _ _ _)

pub returns-in_err-link : goal.returns-in_err-link
returns-in_err-link g c =
    rw (c.in_ok-sum.was, no_value c.from_residual-in_err-link.result c.from_residual-in_err-link.ensures.0)
    (did_not_name _ _ _ _ _ c.in_err-link.ensures)

pub returns : goal.returns
returns g c = rw c.in_ok-sum.was (named_it _ _ _ _ _ c.in_ok-link.ensures)
