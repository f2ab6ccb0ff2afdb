use Rattle.rk_table.proofs.Words.{◌∙◌, ap, sym, list_any}
use Rattle.std.specs.FinMap as map
use Rattle.rk_table.proofs.Once.{any_once, once_rising}
use Rattle.rk_table.proofs.table.Table.any.Goals as goal

pub returns : goal.returns
returns g c =
    c.any_entry.ensures ∙ ap (list_any (λ e. g.T.Test.passes c.args.test.now e.0 e.1)) c.deref.ensures.value
    ∙ sym (any_once _ c.self.inside.entries.items (once_rising _ c.self.invariant))
    ∙ ap (λ s. list_any (λ e. g.T.Test.passes c.args.test.now e.0 e.1) (map.entries s.facts)) c.self.view_is
