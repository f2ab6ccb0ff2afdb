use Rattle.rk_auth.proofs.Words.{◌∙◌, ap, sym, ◌≡◌, subst, arith, None, option_map, construction_of, IsTied, who_of, Sessions}
use Rattle.std.specs.FinMap as map
use Rattle.rk_auth.specs.declared.slot.Standing.TheVariants as standing
use Rattle.rk_auth.proofs.Seen.{unseen}
use Rattle.rk_auth.proofs.Seated.{View, put_at, tied_put, tied_named, named_put, construction_put_view}
use Rattle.rk_auth.proofs.seats.Seats.add_construction.Goals as goal

pub insert-requires-clause-new : goal.insert-requires-clause-new
insert-requires-clause-new c =
    ap (map.get c.self.inside.constructions.facts) c.get.ensures.number
    ∙ unseen construction_of c.self.inside.slots.facts c.self.inside.constructions.facts c.args.key
    (ap (λ h. map.get h.sessions.constructions c.args.key) c.self.view_is ∙ c.requires.new)

pub invariant_of-self : goal.invariant_of-self
invariant_of-self c =
    let room = ap (λ h. h.room) c.self.view_is in
    let inside = c.self.inside in
    let st = standing.Construction c.args.key c.args.construction in
    let stands = c.put_in-place.ensures.standing in
    let none : map.get inside.constructions.facts c.args.key ≡ None =
    unseen construction_of inside.slots.facts inside.constructions.facts c.args.key (ap (λ h. map.get h.sessions.constructions c.args.key) c.self.view_is ∙ c.requires.new) in
    let facts : c.insert.new.self.facts ≡ map.insert inside.constructions.facts c.args.key c.put_in-place.result =
    c.insert.ensures.facts ∙ ap (λ k. map.insert inside.constructions.facts k c.put_in-place.result) c.get.ensures.number in
    record {
      tied = subst (λ index. IsTied c.put_in-place.new.slots.facts index inside.nobody) (sym facts)
          (tied_named c.put_in-place.new.slots.facts inside.constructions.facts inside.nobody c.args.key c.put_in-place.result
          (tied_put inside.slots.facts c.put_in-place.new.slots.facts st c.put_in-place.result c.put_in-place.ensures.new
          stands inside.constructions.facts inside.nobody c.self.invariant.tied c.requires.idle c.put_in-place.ensures.chained c.put_in-place.ensures.homes)
          none (ap (option_map who_of) (put_at inside.slots.facts c.put_in-place.new.slots.facts st c.put_in-place.result c.put_in-place.ensures.new stands)));
      names = named_put c.self.invariant c.put_in-place.new.slots.facts c.put_in-place.result st c.put_in-place.ensures.new stands;
      few = c.self.invariant.few;
      in_clients = c.self.invariant.in_clients;
      fits = omega (arith, room, c.requires.room, c.insert.ensures.places, c.insert.ensures.room, c.self.invariant.in_constructions);
      in_constructions = omega (arith, c.insert.ensures.places, c.self.invariant.in_constructions);
      in_slots = omega (
        arith,
        room,
        c.requires.room,
        c.insert.ensures.places,
        c.insert.ensures.room,
        c.self.invariant.in_constructions,
        c.self.invariant.in_slots,
        c.self.invariant.few,
        c.put_in-place.ensures.room,
      );
    }

pub returns : goal.returns
returns c =
    let inside = c.self.inside in
    ap {B = Sessions} (λ index. View c.put_in-place.new.slots.facts inside.clients.facts index)
    (c.insert.ensures.facts ∙ ap (λ k. map.insert inside.constructions.facts k c.put_in-place.result) c.get.ensures.number)
    ∙ construction_put_view c.self.invariant c.put_in-place.new.slots.facts c.put_in-place.result
    c.args.key c.args.construction c.put_in-place.ensures.new c.put_in-place.ensures.standing
    ∙ ap {B = Sessions} (λ h. record { constructions = map.insert h.sessions.constructions c.args.key c.args.construction; clients = h.sessions.clients })
    c.self.view_is
