use Rattle.rk_auth.proofs.Words.{◌∙◌, ap, sym, session_changed, in_session}
use Rattle.rk_auth.proofs.Seated.{changed_view, unchanged_view, seated_changed, session_who}
use Rattle.rk_auth.proofs.seats.Seats.change_session.Goals as goal

pub invariant_of-self : goal.invariant_of-self
invariant_of-self g c =
    seated_changed (in_session (g.C.ChangeOnce.changed c.args.change)) c.change_at.new.slots c.in-Some.place c.self.invariant
    (session_who (g.C.ChangeOnce.changed c.args.change)) c.change_at.ensures.tied c.change_at.ensures.standing c.change_at.ensures.room

pub returns-in-Some-clause-sessions : goal.returns-in-Some-clause-sessions
returns-in-Some-clause-sessions g c =
    let f = g.C.ChangeOnce.changed c.args.change in
    changed_view c.self.invariant c.change_at.new.slots.facts f c.args.id.now c.in-Some.place
    (sym c.place_of.ensures ∙ c.in-Some.is) c.change_at.ensures.standing
    ∙ ap (λ h. session_changed c.args.id.now f h.sessions) c.self.view_is

pub returns-in_default-clause-sessions : goal.returns-in_default-clause-sessions
returns-in_default-clause-sessions g c =
    let f = g.C.ChangeOnce.changed c.args.change in
    ap (λ h. h.sessions) (sym c.self.view_is)
    ∙ unchanged_view c.self.inside.slots.facts c.self.inside.clients.facts c.self.inside.constructions.facts f c.args.id.now (sym c.place_of.ensures ∙ c.in_default.is)
    ∙ ap (λ h. session_changed c.args.id.now f h.sessions) c.self.view_is
