use Rattle.rk_rings.proofs.Placed.{named_put}
use Rattle.rk_rings.proofs.by_name.add.Goals as goal

pub returns-clause-facts : goal.returns-clause-facts
returns-clause-facts c = named_put c.args.keys.now.entries c.insert.new.self.entries c.args.name (c.args.key) c.in-Ok.ensures.updates.0
