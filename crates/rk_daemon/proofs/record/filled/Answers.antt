use Rattle.std.proofs.Common.{refl}
use Rattle.rk_daemon.proofs.Keepings.{did_not_flush, filled_it, written_through, wrote_nothing}
use Rattle.rk_daemon.proofs.Stories.{no_value}
use Rattle.rk_daemon.proofs.record.filled.Goals as goal

pub returns-in_err-file : goal.returns-in_err-file
returns-in_err-file g c = rw (no_value c.from_residual.result c.from_residual.ensures.0) (wrote_nothing _ _ _ _ _ _ refl)

pub returns-in_err-sum : goal.returns-in_err-sum
returns-in_err-sum g c = rw (no_value c.from_residual-in_err-sum.result c.from_residual-in_err-sum.ensures.0) (wrote_nothing _ _ _ _ _ _ refl)

pub returns-in-Err : goal.returns-in-Err
returns-in-Err g c = wrote_nothing _ _ _ _ _ _ refl

pub returns-in_err-flush : goal.returns-in_err-flush
returns-in_err-flush g c =
    rw (no_value c.from_residual-in_err-flush.result c.from_residual-in_err-flush.ensures.0) (did_not_flush _ _ _ _ _ _ _ c.in_err-flush.ensures)

pub returns : goal.returns
returns g c =
    filled_it _ _ _ _ _ _ _ _ c.in_ok-flush.ensures
    (written_through g.F.File.Write.contents _ _ _ _ _ _ _ _ _ c.in_ok-file.ensures.inner c.in_ok-file.ensures.empty c.in_ok-sum.ensures c.in-Ok.ensures.ok)
