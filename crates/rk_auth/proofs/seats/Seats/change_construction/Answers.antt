use Rattle.rk_auth.proofs.Words.{◌∙◌, ap, sym, changed_at, in_construction, Sessions}
use Rattle.std.specs.FinMap as map
use Rattle.rk_auth.proofs.Seated.{construction_view, unchanged_construction, seated_changed, construction_who}
use Rattle.rk_auth.proofs.seats.Seats.change_construction.Goals as goal

pub invariant_of-self : goal.invariant_of-self
invariant_of-self g c =
    seated_changed (in_construction (g.C.ChangeOnce.changed c.args.change)) c.change_at.new.slots c.in-Some.place c.self.invariant
    (construction_who (g.C.ChangeOnce.changed c.args.change)) c.change_at.ensures.tied c.change_at.ensures.standing c.change_at.ensures.room

pub returns-in-Some-clause-sessions : goal.returns-in-Some-clause-sessions
returns-in-Some-clause-sessions g c =
    let f = g.C.ChangeOnce.changed c.args.change in
    construction_view c.self.invariant c.change_at.new.slots.facts f c.args.key c.in-Some.place
    (ap (map.get c.self.inside.constructions.facts) (sym c.get.ensures.number) ∙ sym c.get-2.ensures ∙ sym c.copied.ensures ∙ c.in-Some.is)
    c.change_at.ensures.standing
    ∙ ap {B = Sessions} (λ h. record { constructions = changed_at c.args.key f h.sessions.constructions; clients = h.sessions.clients }) c.self.view_is

pub returns-in_default-clause-sessions : goal.returns-in_default-clause-sessions
returns-in_default-clause-sessions g c =
    let f = g.C.ChangeOnce.changed c.args.change in
    ap (λ h. h.sessions) (sym c.self.view_is)
    ∙ unchanged_construction c.self.inside.slots.facts c.self.inside.clients.facts c.self.inside.constructions.facts f c.args.key
    (ap (map.get c.self.inside.constructions.facts) (sym c.get.ensures.number) ∙ sym c.get-2.ensures ∙ sym c.copied.ensures ∙ c.in_default.is)
    ∙ ap {B = Sessions} (λ h. record { constructions = changed_at c.args.key f h.sessions.constructions; clients = h.sessions.clients }) c.self.view_is
