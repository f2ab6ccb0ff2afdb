use Rattle.rk_table.proofs.Words.{rules}
use Rattle.std.proofs.lemmas.Fn.{filter_same}
use Rattle.rk_table.proofs.table.retain_entries.Goals as goal

pub returns-clause-items : goal.returns-clause-items
returns-clause-items g c = filter_same _ _ _ (λ x b f' k. search rules) _ _ c.retain.ensures.filtered
