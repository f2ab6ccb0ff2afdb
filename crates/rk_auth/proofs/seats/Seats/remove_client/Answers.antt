use Rattle.rk_auth.proofs.Words.{◌∙◌, ap, sym, ◌≡◌, subst, ℕ, arith, ◌-◌, ◌<◌, Some, who_at, Sessions}
use Rattle.std.specs.FinMap as map
use Rattle.rk_names.specs.declared.numbers.SessionId.TheVariants as id
use Rattle.rk_auth.proofs.Seated.{View, nobody_homes, is_standing_there, tied_out, named_others, client_out_view, not_there_view, one_less, one_at_least}
use Rattle.rk_auth.proofs.seats.Seats.remove_client.Goals as goal

pub take_out-requires-clause-there : goal.take_out-requires-clause-there
take_out-requires-clause-there c =
    is_standing_there c.self.inside.slots.facts c.in-Some.place (Some (id.Client c.args.number))
    (c.self.invariant.names c.args.number c.in-Some.place (sym c.get.ensures ∙ sym c.copied.ensures ∙ c.in-Some.is))

pub take_out-requires-clause-alone : goal.take_out-requires-clause-alone
take_out-requires-clause-alone c =
    nobody_homes c.self.inside.slots.facts c.self.inside.constructions.facts c.self.inside.nobody c.args.number c.in-Some.place c.self.invariant.tied
    (c.self.invariant.names c.args.number c.in-Some.place (sym c.get.ensures ∙ sym c.copied.ensures ∙ c.in-Some.is))

pub invariant_of-self : goal.invariant_of-self
invariant_of-self c =
    let inside = c.self.inside in
    let at : map.get inside.clients.facts c.args.number ≡ Some c.in-Some.place = sym c.get.ensures ∙ sym c.copied.ensures ∙ c.in-Some.is in
    let less : map.len c.remove.new.self.facts ≡ map.len inside.clients.facts - 1 =
    ap map.len c.remove.ensures.facts ∙ one_less inside.clients.facts c.args.number c.in-Some.place at in
    let some : 0 < map.len inside.clients.facts = one_at_least inside.clients.facts c.args.number c.in-Some.place at in
    record {
      tied = tied_out inside.slots.facts c.take_out.new.slots.facts c.in-Some.place c.take_out.ensures.standing inside.constructions.facts inside.nobody
          c.args.number c.self.invariant.tied (c.self.invariant.names c.args.number c.in-Some.place at) c.take_out.ensures.chained c.take_out.ensures.homes;
      names = subst (λ index. (n i : ℕ) → map.get index n ≡ Some i → who_at c.take_out.new.slots.facts i ≡ Some (Some (id.Client n))) (sym c.remove.ensures.facts)
          (named_others c.self.invariant c.take_out.new.slots.facts c.in-Some.place c.args.number at c.take_out.ensures.standing);
      few = omega (arith, less, c.self.invariant.few);
      in_clients = omega (arith, c.remove.ensures.places, c.self.invariant.in_clients);
      fits = c.self.invariant.fits;
      in_constructions = c.self.invariant.in_constructions;
      in_slots = omega (arith, less, some, c.take_out.ensures.room, c.self.invariant.in_slots);
    }

pub returns-in-Some-clause-sessions : goal.returns-in-Some-clause-sessions
returns-in-Some-clause-sessions c =
    let inside = c.self.inside in
    let at : map.get inside.clients.facts c.args.number ≡ Some c.in-Some.place = sym c.get.ensures ∙ sym c.copied.ensures ∙ c.in-Some.is in
    ap {B = Sessions} (λ index. View c.take_out.new.slots.facts index inside.constructions.facts) c.remove.ensures.facts
    ∙ client_out_view c.self.invariant c.take_out.new.slots.facts c.in-Some.place c.args.number at c.take_out.ensures.standing
    ∙ ap {B = Sessions} (λ h. record { constructions = h.sessions.constructions; clients = map.remove h.sessions.clients c.args.number }) c.self.view_is

pub returns-in_default-clause-sessions : goal.returns-in_default-clause-sessions
returns-in_default-clause-sessions c =
    ap (λ h. h.sessions) (sym c.self.view_is)
    ∙ not_there_view c.self.inside.slots.facts c.self.inside.clients.facts c.self.inside.constructions.facts c.args.number
    (sym c.get.ensures ∙ sym c.copied.ensures ∙ c.in_default.is)
    ∙ ap {B = Sessions} (λ h. record { constructions = h.sessions.constructions; clients = map.remove h.sessions.clients c.args.number }) c.self.view_is
