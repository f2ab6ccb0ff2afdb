use Rattle.rk_table.proofs.Words.{◌∙◌, ap, sym}
use Rattle.std.specs.FinMap as map
use Rattle.rk_table.proofs.LookedUp.{len_distinct}
use Rattle.rk_table.proofs.hashed.HashTable.len.Goals as goal

pub returns : goal.returns
returns g c = c.len.ensures.len ∙ sym (len_distinct c.self.inside.entries.entries c.len.ensures.unique) ∙ ap (λ s. map.len s.facts) c.self.view_is
