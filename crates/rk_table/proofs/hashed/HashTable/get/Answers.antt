use Rattle.rk_table.proofs.Words.{◌∙◌, ap, sym}
use Rattle.std.specs.FinMap as map
use Rattle.rk_table.proofs.LookedUp.{get_hashed}
use Rattle.rk_table.proofs.hashed.HashTable.get.Goals as goal

pub returns : goal.returns
returns g c = c.get.ensures.value ∙ sym (get_hashed c.self.inside.entries.entries c.args.key) ∙ ap (λ s. map.get s.facts c.args.key) c.self.view_is
