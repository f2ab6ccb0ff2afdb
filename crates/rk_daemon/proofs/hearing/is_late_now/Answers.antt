use Rattle.rk_daemon.proofs.Hearings.{was_watched}
use Rattle.rk_daemon.proofs.hearing.is_late_now.Goals as goal

pub returns : goal.returns
returns g c = was_watched _ _ _ _ _ _ c.requires c.seconds-now.ensures c.is_over.ensures.over c.is_over.ensures.looked
