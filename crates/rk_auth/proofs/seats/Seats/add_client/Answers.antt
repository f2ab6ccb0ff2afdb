use Rattle.rk_auth.proofs.Words.{◌∙◌, ap, sym, ◌≡◌, subst, ℕ, arith, Some, client_of, who_at, Sessions}
use Rattle.std.specs.FinMap as map
use Rattle.rk_names.specs.declared.numbers.SessionId.TheVariants as id
use Rattle.rk_auth.specs.declared.slot.Standing.TheVariants as standing
use Rattle.rk_auth.proofs.Seen.{seen_len, unseen}
use Rattle.rk_auth.proofs.Seated.{View, tied_put, named_new, client_put_view}
use Rattle.rk_auth.proofs.seats.Seats.add_client.Goals as goal

pub put_in-place-requires-clause-room : goal.put_in-place-requires-clause-room
put_in-place-requires-clause-room c =
    let same = seen_len client_of c.self.inside.slots.facts c.self.inside.clients.facts in
    let seen = ap (λ h. map.len h.sessions.clients) c.self.view_is in
    omega (arith, same, seen, c.requires.few, c.self.invariant.in_slots, c.self.invariant.fits)

pub insert-requires-clause-new : goal.insert-requires-clause-new
insert-requires-clause-new c =
    unseen client_of c.self.inside.slots.facts c.self.inside.clients.facts c.args.number (ap (λ h. map.get h.sessions.clients c.args.number) c.self.view_is ∙ c.requires.new)

pub insert-requires-clause-room : goal.insert-requires-clause-room
insert-requires-clause-room c =
    let same = seen_len client_of c.self.inside.slots.facts c.self.inside.clients.facts in
    let seen = ap (λ h. map.len h.sessions.clients) c.self.view_is in
    omega (arith, same, seen, c.requires.few, c.self.invariant.in_clients)

pub invariant_of-self : goal.invariant_of-self
invariant_of-self c =
    let same = seen_len client_of c.self.inside.slots.facts c.self.inside.clients.facts in
    let seen = ap (λ h. map.len h.sessions.clients) c.self.view_is in
    let inside = c.self.inside in
    let stands = c.put_in-place.ensures.standing in
    record {
      tied = tied_put inside.slots.facts c.put_in-place.new.slots.facts (standing.Client c.args.number c.args.session) c.put_in-place.result c.put_in-place.ensures.new
          stands inside.constructions.facts inside.nobody c.self.invariant.tied c.requires.idle c.put_in-place.ensures.chained c.put_in-place.ensures.homes;
      names = subst (λ index. (n i : ℕ) → map.get index n ≡ Some i → who_at c.put_in-place.new.slots.facts i ≡ Some (Some (id.Client n))) (sym c.insert.ensures.facts)
          (named_new c.self.invariant c.put_in-place.new.slots.facts c.put_in-place.result c.args.number c.args.session c.put_in-place.ensures.new stands);
      few = omega (arith, same, seen, c.requires.few, c.insert.ensures.places, c.insert.ensures.room, c.self.invariant.in_clients);
      in_clients = omega (arith, c.insert.ensures.places, c.self.invariant.in_clients);
      fits = c.self.invariant.fits;
      in_constructions = c.self.invariant.in_constructions;
      in_slots = omega (
        arith,
        same,
        seen,
        c.requires.few,
        c.insert.ensures.places,
        c.insert.ensures.room,
        c.self.invariant.in_clients,
        c.self.invariant.in_slots,
        c.self.invariant.fits,
        c.put_in-place.ensures.room,
      );
    }

pub returns-clause-sessions : goal.returns-clause-sessions
returns-clause-sessions c =
    let inside = c.self.inside in
    ap {B = Sessions} (λ index. View c.put_in-place.new.slots.facts index inside.constructions.facts) c.insert.ensures.facts
    ∙ client_put_view c.self.invariant c.put_in-place.new.slots.facts c.put_in-place.result
    c.args.number c.args.session c.put_in-place.ensures.new c.put_in-place.ensures.standing
    ∙ ap {B = Sessions} (λ h. record { constructions = h.sessions.constructions; clients = map.insert h.sessions.clients c.args.number c.args.session }) c.self.view_is
