use Rattle.rk_table.proofs.Words.{◌∙◌, ap, option_map, list_find}
use Rattle.rk_table.proofs.Once.{finds_entry, once_rising}
use Rattle.rk_table.proofs.table.Table.find.Goals as goal

pub returns : goal.returns
returns g c =
    finds_entry (g.T.Test.passes c.args.test.now) c.self.inside.entries.items _ _ (once_rising _ c.self.invariant) (ap (λ s. s.facts) c.self.view_is)
    (c.find_entry.ensures ∙ ap (λ es. option_map (λ e. e.0) (list_find (λ e. g.T.Test.passes c.args.test.now e.0 e.1) es)) c.deref.ensures.value)
