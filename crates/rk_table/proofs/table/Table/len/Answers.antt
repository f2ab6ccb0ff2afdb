use Rattle.rk_table.proofs.Words.{◌∙◌, ap, sym}
use Rattle.std.specs.FinMap as map
use Rattle.rk_table.proofs.Once.{len_once, once_rising}
use Rattle.rk_table.proofs.table.Table.len.Goals as goal

pub returns : goal.returns
returns g c = c.len.ensures ∙ c.self.inside.entries.ok.0 ∙ sym (len_once c.self.inside.entries.items (once_rising _ c.self.invariant)) ∙ ap (λ s. map.len s.facts) c.self.view_is
