use Rattle.rk_daemon.proofs.Acceptings.{not_watched, was_watched}
use Rattle.rk_daemon.proofs.accepting.is_over.Goals as goal

pub returns-then-eof : goal.returns-then-eof
returns-then-eof g c = was_watched _ _ _ _ c.if-eof.true c.is_over.ensures

pub returns-else-eof : goal.returns-else-eof
returns-else-eof g c = not_watched _ _ c.if-eof.false
