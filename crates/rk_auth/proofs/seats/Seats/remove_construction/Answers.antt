use Rattle.rk_auth.proofs.Words.{◌∙◌, ap, sym, ◌≡◌, subst, cond, arith, ◌-◌, ◌<◌, Some, None, nat_eq, is_some, IsTied, Sessions}
use Rattle.std.specs.FinMap as map
use Rattle.rk_names.specs.declared.numbers.SessionId.TheVariants as id
use Rattle.rk_auth.proofs.Seated.{View, is_standing_there, tied_ended, named_left, construction_out_view, not_made_view, one_less, one_at_least}
use Rattle.rk_auth.proofs.seats.Seats.remove_construction.Goals as goal

pub take_out-requires-clause-there : goal.take_out-requires-clause-there
take_out-requires-clause-there c =
    let inside = c.self.inside in
    let at : map.get inside.constructions.facts c.args.key ≡ Some c.in-Some.place =
    ap (map.get inside.constructions.facts) (sym c.get.ensures.number) ∙ sym c.get-2.ensures ∙ sym c.copied.ensures ∙ c.in-Some.is in
    ap is_some (c.loosen.ensures.standing c.in-Some.place)
    ∙ is_standing_there inside.slots.facts c.in-Some.place (Some (id.Handler c.args.key)) (c.self.invariant.tied.heads c.args.key c.in-Some.place at)

pub invariant_of-self : goal.invariant_of-self
invariant_of-self c =
    let inside = c.self.inside in
    let at : map.get inside.constructions.facts c.args.key ≡ Some c.in-Some.place =
    ap (map.get inside.constructions.facts) (sym c.get.ensures.number) ∙ sym c.get-2.ensures ∙ sym c.copied.ensures ∙ c.in-Some.is in
    let facts : c.remove.new.self.facts ≡ map.remove inside.constructions.facts c.args.key =
    c.remove.ensures.facts ∙ ap (map.remove inside.constructions.facts) c.get-in-Some.ensures.number in
    let less : map.len c.remove.new.self.facts ≡ map.len inside.constructions.facts - 1 =
    ap map.len facts ∙ one_less inside.constructions.facts c.args.key c.in-Some.place at in
    let some : 0 < map.len inside.constructions.facts = one_at_least inside.constructions.facts c.args.key c.in-Some.place at in
    record {
      tied = subst (λ index. IsTied c.take_out.new.slots.facts index inside.nobody) (sym facts)
          (tied_ended inside.slots.facts c.loosen.new.slots.facts c.take_out.new.slots.facts inside.constructions.facts inside.nobody c.args.key c.in-Some.place
          c.self.invariant.tied at c.loosen.ensures.standing c.loosen.ensures.homes c.take_out.ensures.chained c.take_out.ensures.standing c.take_out.ensures.homes);
      names = named_left c.self.invariant c.take_out.new.slots.facts c.in-Some.place c.args.key at
          (λ q. c.take_out.ensures.standing q ∙ ap (λ o. cond (nat_eq c.in-Some.place q) None o) (c.loosen.ensures.standing q));
      few = c.self.invariant.few;
      in_clients = c.self.invariant.in_clients;
      fits = omega (arith, less, c.self.invariant.fits);
      in_constructions = omega (arith, c.remove.ensures.places, c.self.invariant.in_constructions);
      in_slots = omega (arith, less, some, c.loosen.ensures.room, c.take_out.ensures.room, c.self.invariant.in_slots);
    }

pub returns-in-Some-clause-sessions : goal.returns-in-Some-clause-sessions
returns-in-Some-clause-sessions c =
    let inside = c.self.inside in
    let at : map.get inside.constructions.facts c.args.key ≡ Some c.in-Some.place =
    ap (map.get inside.constructions.facts) (sym c.get.ensures.number) ∙ sym c.get-2.ensures ∙ sym c.copied.ensures ∙ c.in-Some.is in
    ap {B = Sessions} (λ index. View c.take_out.new.slots.facts inside.clients.facts index)
    (c.remove.ensures.facts ∙ ap (map.remove inside.constructions.facts) c.get-in-Some.ensures.number)
    ∙ construction_out_view c.self.invariant c.take_out.new.slots.facts c.in-Some.place c.args.key at
    (λ q. c.take_out.ensures.standing q ∙ ap (λ o. cond (nat_eq c.in-Some.place q) None o) (c.loosen.ensures.standing q))
    ∙ ap {B = Sessions} (λ h. record { constructions = map.remove h.sessions.constructions c.args.key; clients = h.sessions.clients }) c.self.view_is

pub returns-in_default-clause-sessions : goal.returns-in_default-clause-sessions
returns-in_default-clause-sessions c =
    let inside = c.self.inside in
    ap (λ h. h.sessions) (sym c.self.view_is) ∙ not_made_view inside.slots.facts inside.clients.facts inside.constructions.facts c.args.key
    (ap (map.get inside.constructions.facts) (sym c.get.ensures.number) ∙ sym c.get-2.ensures ∙ sym c.copied.ensures ∙ c.in_default.is)
    ∙ ap {B = Sessions} (λ h. record { constructions = map.remove h.sessions.constructions c.args.key; clients = h.sessions.clients }) c.self.view_is
