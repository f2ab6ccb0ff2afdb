use Rattle.rk_table.proofs.Words.{◌∙◌, ap, sym, subst, IsGapFor, IsAt, places}
use Rattle.rk_table.proofs.Found.{changed_here, not_changed}
use Rattle.rk_table.proofs.Rising.{rising_by_keys}
use Rattle.rk_table.proofs.Once.{keys_written}
use Rattle.rk_table.proofs.Once.{places_once}
use Rattle.std.specs.Vec.{with_item}
use Rattle.rk_table.proofs.table.Table.change.Goals as goal

pub returns-in-Ok-clause-facts : goal.returns-in-Ok-clause-facts
returns-in-Ok-clause-facts g c =
    changed_here _ _ _ _ _ _ _ (ap (λ s. s.facts) c.self.view_is) c.self.invariant
    (subst (λ es. IsAt es c.args.key c.in-Ok.place) c.deref.ensures.value c.in-Ok.ensures.found)
    c.index_mut.ensures.value c.change.ensures

pub returns-in_default-clause-facts : goal.returns-in_default-clause-facts
returns-in_default-clause-facts g c =
    not_changed c.self.inside.entries.items _ c.args.key c.in_default.field-0 _ (ap (λ s. s.facts) c.self.view_is)
    (subst (λ es. IsGapFor es c.args.key c.in_default.field-0) c.deref.ensures.value c.in_default.ensures.absent)

pub invariant_of-self : goal.invariant_of-self
invariant_of-self g c = rising_by_keys c.self.inside.entries.items _ (keys_written c.self.inside.entries.items c.in-Ok.place c.index_mut.result.now c.change.new.value c.index_mut.ensures.value) c.self.invariant

pub returns-in-Ok-clause-places : goal.returns-in-Ok-clause-places
returns-in-Ok-clause-places g c =
    places_once (with_item c.self.inside.entries c.in-Ok.place (c.index_mut.result.now.0, c.change.new.value)).items (with_item c.self.inside.entries c.in-Ok.place (c.index_mut.result.now.0, c.change.new.value)).len (with_item c.self.inside.entries c.in-Ok.place (c.index_mut.result.now.0, c.change.new.value)).cap (invariant_of-self g c) (with_item c.self.inside.entries c.in-Ok.place (c.index_mut.result.now.0, c.change.new.value)).ok.0 (with_item c.self.inside.entries c.in-Ok.place (c.index_mut.result.now.0, c.change.new.value)).ok.1
    ∙ sym (places_once c.self.inside.entries.items c.self.inside.entries.len c.self.inside.entries.cap c.self.invariant c.self.inside.entries.ok.0 c.self.inside.entries.ok.1)
    ∙ ap places c.self.view_is
