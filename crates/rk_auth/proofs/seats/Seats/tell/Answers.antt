use Rattle.rk_auth.proofs.Words.{◌∙◌, ap, subst, arith, all_told, AreBothTold}
use Rattle.std.specs.FinMap as map
use Rattle.rk_auth.proofs.Told.{tied_told, named_told, told_view}
use Rattle.rk_auth.proofs.seats.Seats.tell.Goals as goal

is_told : (c : goal.After-tell_both) → AreBothTold c.self.inside.slots.facts c.tell_both.new.slots.facts (map.get c.self.inside.constructions.facts c.args.key)
    c.self.inside.nobody c.args.key c.args.outcome
is_told c =
    subst (λ home. AreBothTold c.self.inside.slots.facts c.tell_both.new.slots.facts home c.self.inside.nobody c.args.key c.args.outcome)
    (c.copied-home.ensures ∙ c.get-2.ensures ∙ ap (map.get c.self.inside.constructions.facts) c.get.ensures.number) c.tell_both.ensures.told

pub invariant_of-self : goal.invariant_of-self
invariant_of-self c =
    let inside = c.self.inside in
    record {
      tied = tied_told c.args.key c.args.outcome inside.slots.facts c.tell_both.new.slots.facts inside.constructions.facts inside.nobody c.self.invariant.tied
          (is_told c);
      names = named_told c.args.key c.args.outcome inside.slots.facts c.tell_both.new.slots.facts inside.constructions.facts inside.nobody
          c.self.invariant.tied (is_told c) inside.clients.facts c.self.invariant.names;
      few = c.self.invariant.few;
      in_clients = c.self.invariant.in_clients;
      fits = c.self.invariant.fits;
      in_constructions = c.self.invariant.in_constructions;
      in_slots = omega (arith, c.self.invariant.in_slots, c.tell_both.ensures.room);
    }

pub returns-clause-sessions : goal.returns-clause-sessions
returns-clause-sessions c =
    let inside = c.self.inside in
    told_view c.args.key c.args.outcome inside.slots.facts c.tell_both.new.slots.facts inside.constructions.facts inside.nobody c.self.invariant.tied (is_told c)
    inside.clients.facts c.self.invariant.names ∙ ap (λ h. all_told c.args.key c.args.outcome h.sessions) c.self.view_is
