use Rattle.rk_table.proofs.Words.{◌∙◌, ap, sym, subst, KeysRise, kept_where, places}
use Rattle.std.specs.FinMap as map
use Rattle.rk_table.proofs.Once.{kept_once}
use Rattle.rk_table.proofs.Once.{once_rising, places_once}
use Rattle.rk_table.proofs.Rising.{rising_filtered}
use Rattle.rk_table.proofs.table.Table.retain.Goals as goal

pub returns-clause-facts : goal.returns-clause-facts
returns-clause-facts g c =
    ap map.from_entries c.retain_entries.ensures.items
    ∙ kept_once (g.T.Test.passes c.args.test.now) c.self.inside.entries.items (once_rising _ c.self.invariant)
    ∙ ap (λ s. kept_where (g.T.Test.passes c.args.test.now) s.facts) c.self.view_is

pub invariant_of-self : goal.invariant_of-self
invariant_of-self g c = subst KeysRise (sym c.retain_entries.ensures.items) (rising_filtered _ c.self.inside.entries.items c.self.invariant)

pub returns-clause-places : goal.returns-clause-places
returns-clause-places g c =
    places_once c.retain_entries.new.entries.items c.retain_entries.new.entries.len c.retain_entries.new.entries.cap (invariant_of-self g c) c.retain_entries.new.entries.ok.0 c.retain_entries.new.entries.ok.1
    ∙ c.retain_entries.ensures.capacity
    ∙ sym (places_once c.self.inside.entries.items c.self.inside.entries.len c.self.inside.entries.cap c.self.invariant c.self.inside.entries.ok.0 c.self.inside.entries.ok.1)
    ∙ ap places c.self.view_is
