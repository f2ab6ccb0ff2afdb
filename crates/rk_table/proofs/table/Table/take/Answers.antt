use Rattle.rk_table.proofs.Words.{◌∙◌, ap, sym, subst, Some, KeysRise, IsGapFor, IsAt, places}
use Rattle.std.specs.FinMap as map
use Rattle.rk_table.proofs.Rising.{rising_filtered}
use Rattle.rk_table.proofs.Found.{found_at, not_found, without_at, taken_out, nothing_to_take}
use Rattle.rk_table.proofs.Once.{places_once}
use Rattle.rk_table.proofs.table.Table.take.Goals as goal

pub returns-in-Ok-clause-value : goal.returns-in-Ok-clause-value
returns-in-Ok-clause-value g c =
    ap (λ e. Some e.1) c.remove.ensures.value
    ∙ sym (found_at c.self.inside.entries.items c.args.key c.in-Ok.place c.remove.result c.self.invariant (subst (λ es. IsAt es c.args.key c.in-Ok.place) c.deref.ensures.value c.in-Ok.ensures.found))
    ∙ ap (λ s. map.get s.facts c.args.key) c.self.view_is

pub returns-in-Err-clause-value : goal.returns-in-Err-clause-value
returns-in-Err-clause-value g c =
    sym (not_found c.self.inside.entries.items c.args.key c.in-Err.field-0 (subst (λ es. IsGapFor es c.args.key c.in-Err.field-0) c.deref.ensures.value c.in-Err.ensures.absent))
    ∙ ap (λ s. map.get s.facts c.args.key) c.self.view_is

pub returns-in-Ok-clause-facts : goal.returns-in-Ok-clause-facts
returns-in-Ok-clause-facts g c =
    ap map.from_entries c.remove.ensures.items
    ∙ taken_out c.self.inside.entries.items c.args.key c.in-Ok.place c.self.invariant (subst (λ es. IsAt es c.args.key c.in-Ok.place) c.deref.ensures.value c.in-Ok.ensures.found)
    ∙ ap (λ s. map.remove s.facts c.args.key) c.self.view_is

pub returns-in-Err-clause-facts : goal.returns-in-Err-clause-facts
returns-in-Err-clause-facts g c =
    sym (ap (λ s. s.facts) c.self.view_is)
    ∙ nothing_to_take c.self.inside.entries.items c.args.key c.in-Err.field-0 (subst (λ es. IsGapFor es c.args.key c.in-Err.field-0) c.deref.ensures.value c.in-Err.ensures.absent)
    ∙ ap (λ s. map.remove s.facts c.args.key) c.self.view_is

pub invariant_of-self : goal.invariant_of-self
invariant_of-self g c =
    subst KeysRise (sym (c.remove.ensures.items ∙ without_at c.self.inside.entries.items c.args.key c.in-Ok.place c.self.invariant (subst (λ es. IsAt es c.args.key c.in-Ok.place) c.deref.ensures.value c.in-Ok.ensures.found)))
    (rising_filtered _ c.self.inside.entries.items c.self.invariant)

pub returns-in-Ok-clause-places : goal.returns-in-Ok-clause-places
returns-in-Ok-clause-places g c =
    places_once c.remove.new.self.items c.remove.new.self.len c.remove.new.self.cap (invariant_of-self g c) c.remove.new.self.ok.0 c.remove.new.self.ok.1
    ∙ c.remove.ensures.capacity
    ∙ sym (places_once c.self.inside.entries.items c.self.inside.entries.len c.self.inside.entries.cap c.self.invariant c.self.inside.entries.ok.0 c.self.inside.entries.ok.1)
    ∙ ap places c.self.view_is
