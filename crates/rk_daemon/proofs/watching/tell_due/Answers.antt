use Rattle.std.proofs.Common.{sym}
use Rattle.rk_daemon.proofs.Lookings.{told_due, told_early}
use Rattle.rk_daemon.proofs.watching.tell_due.Goals as goal

pub returns-then-is_due : goal.returns-then-is_due
returns-then-is_due g c = told_due _ _ _ _ _ _ (sym c.if-is_due.ensures.due) c.if-is_due.ensures.told c.tell_figures.ensures

pub returns-else-is_due : goal.returns-else-is_due
returns-else-is_due g c = told_early _ _ _ _ _ (sym c.if-is_due.ensures.due) c.if-is_due.ensures.told
