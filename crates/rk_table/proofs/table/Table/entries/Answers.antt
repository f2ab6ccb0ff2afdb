use Rattle.rk_table.proofs.Words.{◌∙◌, ap, sym}
use Rattle.std.specs.FinMap as map
use Rattle.rk_table.proofs.Once.{entries_rising}
use Rattle.rk_table.proofs.table.Table.entries.Goals as goal

pub returns : goal.returns
returns g c = c.deref.ensures.value ∙ sym (entries_rising c.self.inside.entries.items c.self.invariant) ∙ ap (λ s. map.entries s.facts) c.self.view_is
