use Rattle.rk_session.proofs.Words.{refl, subst, sym, Client, Place, Moves, Greets, Says, ShutOut, says_done, standing_of, answered_settled}
use Rattle.rk_session.proofs.Sayings.{shut_settled}
use Rattle.rk_session.proofs.Seats.{moved_clients, moves_then, stays_moves}
use Rattle.rk_session.proofs.Sendings.{pushes_same}
use Rattle.rk_session.proofs.answering.admitted.Goals as goal

pub returns-in-Some-clause-says : goal.returns-in-Some-clause-says
returns-in-Some-clause-says g c body spells =
    ShutOut c.args.hello.ask.now c.in-Some.refusal c.args.hello.hall c.moved.new.caller.seat spells c.requires.first.0 c.requires.first.1
    c.in-Some.ensures.1 c.in-Some.ensures.2

pub returns-in-Some-clause-settled : goal.returns-in-Some-clause-settled
returns-in-Some-clause-settled g c =
    shut_settled (Client c.args.client) c.args.hello.hall c.args.crew.now.caller.seat c.moved.new.caller.seat c.in-Some.refusal c.in-Some.ensures.2

pub returns-in-Some-clause-pushes : goal.returns-in-Some-clause-pushes
returns-in-Some-clause-pushes g c = pushes_same _

pub returns-clause-says : goal.returns-clause-says
returns-clause-says g c body spells =
    let seat = c.greeted.new.crew.caller.seat in
    let place : Place = record { hall = c.args.hello.hall; greeted = says_done c.greeted.result } in
    subst
    (λ p. Says (Client c.args.client) (standing_of c.args.place.now c.args.crew.now.caller.seat) body c.greeted.result
    (standing_of p seat))
    (sym c.greeted.ensures.context)
    (Greets c.args.hello.ask.now c.greeted.result c.moved.new.caller.seat (standing_of place seat) spells c.requires.first.0 c.requires.first.1
    c.in-None.ensures c.greeted.ensures.says refl)

pub returns-clause-settled : goal.returns-clause-settled
returns-clause-settled g c =
    answered_settled (Client c.args.client) c.args.hello.hall c.args.hello.ask.now c.moved.new.caller.seat c.greeted.new.crew.caller.seat c.greeted.result
    c.greeted.ensures.says

pub returns-clause-moves : goal.returns-clause-moves
returns-clause-moves g c =
    let here = c.args.place.now.hall in
    let there = c.args.hello.hall in
    let before = c.args.crew.now.caller.seat in
    let mid = c.moved.new.caller.seat in
    let after = c.greeted.new.crew.caller.seat in
    subst (λ (p : Place). Moves here p.hall before after) (sym c.greeted.ensures.context)
    (moves_then here there there before mid after (moved_clients (Client c.args.client) here there before mid c.in-None.ensures)
    (stays_moves there mid after c.greeted.ensures.stays))
