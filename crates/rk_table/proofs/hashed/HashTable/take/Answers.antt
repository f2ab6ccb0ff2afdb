use Rattle.rk_table.proofs.Words.{◌∙◌, ap, sym}
use Rattle.std.specs.FinMap as map
use Rattle.rk_table.proofs.LookedUp.{get_hashed, taken_hashed}
use Rattle.rk_table.proofs.hashed.HashTable.take.Goals as goal

pub returns-clause-value : goal.returns-clause-value
returns-clause-value g c = c.swap_remove.ensures.value ∙ sym (get_hashed c.self.inside.entries.entries c.args.key) ∙ ap (λ s. map.get s.facts c.args.key) c.self.view_is

pub returns-clause-facts : goal.returns-clause-facts
returns-clause-facts g c =
    taken_hashed c.self.inside.entries.entries c.swap_remove.new.self.entries c.args.key c.swap_remove.ensures.updates.0
    ∙ ap (λ s. map.remove s.facts c.args.key) c.self.view_is
