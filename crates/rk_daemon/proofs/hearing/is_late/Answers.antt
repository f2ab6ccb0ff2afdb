use Rattle.std.proofs.Common.{sym}
use Rattle.rk_daemon.proofs.Hearings.{not_watched}
use Rattle.rk_daemon.proofs.hearing.is_late.Goals as goal

pub returns-else-is_timed : goal.returns-else-is_timed
returns-else-is_timed g c = not_watched _ _ _ c.if-is_timed.false (sym c.if-is_timed.ensures)
