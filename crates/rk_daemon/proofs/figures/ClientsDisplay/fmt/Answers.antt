use Rattle.std.proofs.Common.{◌++◌, append_assoc}
use Rattle.std.specs.Prelude.{codes, decimal}
use Rattle.rk_daemon.proofs.figures.ClientsDisplay.fmt.Goals as goal

pub returns-clause-writes : goal.returns-clause-writes
returns-clause-writes g c = rw (append_assoc (codes "connections " ++ decimal c.args.self.now.open) (codes ", workers busy ") (decimal c.args.self.now.served)) c.write.ensures.writes
