use Rattle.rk_daemon.proofs.Lookings.{counted_all}
use Rattle.rk_daemon.proofs.watching.in_halls.Goals as goal

pub returns : goal.returns
returns g c = counted_all _ _ _ _ _ _ _ _ _ _ c.counts-zero.ensures c.counts-one.ensures c.counts-two.ensures c.counts-three.ensures c.of.ensures
