use Rattle.rk_table.proofs.Words.{◌∙◌, ap}
use Rattle.std.specs.FinMap as map
use Rattle.rk_table.proofs.LookedUp.{put_hashed}
use Rattle.rk_table.proofs.hashed.HashTable.insert.Goals as goal

pub returns-clause-facts : goal.returns-clause-facts
returns-clause-facts g c =
    put_hashed c.self.inside.entries.entries c.insert.new.self.entries c.args.key c.args.value c.in-Ok.ensures.updates.0
    ∙ ap (λ s. map.insert s.facts c.args.key c.args.value) c.self.view_is
