use Rattle.rk_session.proofs.answering.finished.Goals as goal

pub returns-clause-finishes : goal.returns-clause-finishes
returns-clause-finishes g c =
    (c.brought_to_end.new.crew.caller.seat, c.brought_to_end.ensures.stays, c.brought_to_end.ensures.idle, c.settled.ensures.said)
