use Rattle.rk_session.proofs.Words.{inl, refl, subst, sym, Client, IsNotAsked, IsToWait, receipt_answers, stays_same}
use Rattle.rk_talk.specs.declared.saying.Saying.TheVariants as saying
use Rattle.rk_session.proofs.Sendings.{pushes_same}
use Rattle.rk_session.proofs.answering.asked.Goals as goal

pub returns-in-None-clause-says : goal.returns-in-None-clause-says
returns-in-None-clause-says g c =
    let called = c.ask_in.new.seat in
    receipt_answers (Client c.args.client) c.args.hall c.now-now.result c.args.ask.now c.args.crew.now.caller.seat called called called
    c.in-Ok.field-0.receipt c.in-Ok.field-0.launch (saying.Noted c.in-Ok.field-0.receipt) c.in-Ok.ensures.receipt c.in-Ok.ensures.seat
    c.in-Ok.ensures.launch (stays_same called) (λ none. refl)
    (inl (refl, λ waits. c.if-not-waits.ensures (subst IsToWait (sym c.answer.ensures) waits), refl))

pub returns-in-None-clause-pushes : goal.returns-in-None-clause-pushes
returns-in-None-clause-pushes g c = pushes_same _

pub returns-in_default-clause-says : goal.returns-in_default-clause-says
returns-in_default-clause-says g c =
    let finishes = c.awaited.ensures.finishes in
    receipt_answers (Client c.args.client) c.args.hall c.now-now.result c.args.ask.now c.args.crew.now.caller.seat c.ask_in.new.seat finishes.0
    c.awaited.new.crew.caller.seat c.in-Ok.field-0.receipt c.in-Ok.field-0.launch c.awaited.result c.in-Ok.ensures.receipt c.in-Ok.ensures.seat
    c.in-Ok.ensures.launch finishes.1 finishes.2 finishes.3

pub returns-in-Err-clause-says : goal.returns-in-Err-clause-says
returns-in-Err-clause-says g c = IsNotAsked c.in-Err.fault c.in-Err.ensures.err c.refused.ensures c.in-Err.ensures.same

pub returns-in-Err-clause-pushes : goal.returns-in-Err-clause-pushes
returns-in-Err-clause-pushes g c = pushes_same _
