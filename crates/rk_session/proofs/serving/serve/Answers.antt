use Rattle.rk_session.proofs.Words.{inl, inr, refl, subst, Zero, Client, Moves, standing_of}
use Rattle.rk_session.proofs.Seats.{came_and_went, left_clients, opened_clients}
use Rattle.rk_session.proofs.serving.serve.Goals as goal

pub returns-in-Some-clause-talked : goal.returns-in-Some-clause-talked
returns-in-Some-clause-talked g c = inr (refl, c.in-Some.refusal, c.in-Some.ensures.1, refl)

pub returns-clause-talked : goal.returns-clause-talked
returns-clause-talked g c =
    inl (
      c.open.new.caller.seat,
      standing_of c.talk-served.new.visit.place c.talk-served.new.crew.caller.seat,
      c.in-None.ensures,
      rw c.new-visit.ensures.client at c.talk-served.ensures.talked,
      c.talk-served.ensures.sent,
      c.leave.ensures.left,
    )

pub returns-clause-stays : goal.returns-clause-stays
returns-clause-stays g c =
    came_and_went Zero c.talk-served.new.visit.place.hall c.args.crew.now.caller.seat c.open.new.caller.seat c.talk-served.new.crew.caller.seat c.leave.new.caller.seat
    (opened_clients (Client c.args.client) Zero c.args.crew.now.caller.seat c.open.new.caller.seat c.in-None.ensures)
    (subst (λ place. Moves place.hall c.talk-served.new.visit.place.hall c.open.new.caller.seat c.talk-served.new.crew.caller.seat)
    c.new-visit.ensures.place c.talk-served.ensures.moves)
    (left_clients (Client c.args.client) c.talk-served.new.visit.place.hall c.talk-served.new.crew.caller.seat c.leave.new.caller.seat c.leave.ensures.left)
