use Rattle.rk_table.proofs.Words.{◌∙◌, ap, sym, subst, KeysRise, IsGapFor, IsAt, places}
use Rattle.std.specs.FinMap as map
use Rattle.rk_table.proofs.Rising.{rising_inserted}
use Rattle.rk_table.proofs.Found.{put_in, nowhere}
use Rattle.rk_table.proofs.Once.{places_once}
use Rattle.rk_table.proofs.table.Table.insert.Goals as goal

-- the key is new, so the search doesn't find it
pub unreachable-requires : goal.unreachable-requires
unreachable-requires g c =
    nowhere c.self.inside.entries.items c.args.key c.in-Ok.field-0 c.self.invariant (ap (λ s. map.get s.facts c.args.key) c.self.view_is ∙ c.requires.new)
    (subst (λ es. IsAt es c.args.key c.in-Ok.field-0) c.deref.ensures.value c.in-Ok.ensures.found)

pub returns-clause-facts : goal.returns-clause-facts
returns-clause-facts g c =
    ap map.from_entries c.put_at.ensures.items
    ∙ put_in c.self.inside.entries.items c.in-Err.place c.args.key c.args.value (subst (λ es. IsGapFor es c.args.key c.in-Err.place) c.deref.ensures.value c.in-Err.ensures.absent)
    ∙ ap (λ s. map.insert s.facts c.args.key c.args.value) c.self.view_is

pub invariant_of-self : goal.invariant_of-self
invariant_of-self g c =
    subst KeysRise (sym c.put_at.ensures.items)
    (rising_inserted c.self.inside.entries.items c.in-Err.place c.args.key c.args.value c.self.invariant
    (subst (λ es. IsGapFor es c.args.key c.in-Err.place) c.deref.ensures.value c.in-Err.ensures.absent))

pub returns-clause-places : goal.returns-clause-places
returns-clause-places g c =
    places_once c.put_at.new.items.items c.put_at.new.items.len c.put_at.new.items.cap (invariant_of-self g c) c.put_at.new.items.ok.0 c.put_at.new.items.ok.1
    ∙ c.put_at.ensures.capacity
    ∙ sym (places_once c.self.inside.entries.items c.self.inside.entries.len c.self.inside.entries.cap c.self.invariant c.self.inside.entries.ok.0 c.self.inside.entries.ok.1)
    ∙ ap places c.self.view_is
