use Rattle.rk_core.proofs.Words.{ap, World}
use Rattle.rk_core.proofs.Greetings.UserRing.{user_seen}
use Rattle.rk_core.proofs.tables.Tables.user_ring.Goals as goal

pub returns : goal.returns
returns c = user_seen c.self.inside.rings c.args.uid c.user_ring.result c.user_ring.ensures c.args.self.now (ap (λ (w : World). w.rings) c.self.view_is)
