use Rattle.rk_daemon.proofs.Lookings.{looked_after}
use Rattle.rk_daemon.proofs.watching.look_after.Goals as goal

pub returns : goal.returns
returns g c = looked_after _ _ _ _ _ _ _ _ _ _ c.seconds-now.ensures c.tell_left_out.ensures c.minute_of.ensures c.tell_slow.ensures c.tell_due.ensures
