use Rattle.rk_session.proofs.Words.{inl, refl, subst, sym, Client, Speaks, IsNotAsked, IsToWait, receipt_answers, stays_same}
use Rattle.rk_talk.specs.Said.{IsAnswered}
use Rattle.rk_talk.specs.declared.saying.Saying.TheVariants as saying
use Rattle.rk_session.proofs.turns.ask_here.Goals as goal

pub returns-in-None-clause-said : goal.returns-in-None-clause-said
returns-in-None-clause-said g c =
    let called = c.ask.new.seat in (
      saying.Noted c.in-Ok.field-0.receipt,
      receipt_answers (Client c.args.client) c.args.hall c.now-now.result c.args.ask.now c.args.crew.now.caller.seat called called called c.in-Ok.field-0.receipt
          c.in-Ok.field-0.launch (saying.Noted c.in-Ok.field-0.receipt) c.in-Ok.ensures.receipt c.in-Ok.ensures.seat c.in-Ok.ensures.launch (stays_same called) (λ none. refl)
          (inl (refl, λ waits. c.if-not-waits.ensures (subst IsToWait (sym c.answer.ensures) waits), refl)),
      subst (λ r. Speaks (saying.Noted c.in-Ok.field-0.receipt) r (g.W.Wire.shown c.args.wire.now).story (g.W.Wire.shown c.tell-reply.new.wire)) (sym c.written.ensures)
          c.tell-reply.ensures.speaks,
    )

pub returns-in_default-clause-said : goal.returns-in_default-clause-said
returns-in_default-clause-said g c =
    let said = c.say_awaited.ensures.said in
    let finishes = said.1 in (
      said.0,
      receipt_answers (Client c.args.client) c.args.hall c.now-now.result c.args.ask.now c.args.crew.now.caller.seat c.ask.new.seat finishes.0
          c.say_awaited.new.crew.caller.seat c.in-Ok.field-0.receipt c.in-Ok.field-0.launch said.0 c.in-Ok.ensures.receipt c.in-Ok.ensures.seat c.in-Ok.ensures.launch
          finishes.1 finishes.2 finishes.3,
      said.2,
    )

pub returns-in-Err-clause-said : goal.returns-in-Err-clause-said
returns-in-Err-clause-said g c =
    let said = c.say_refused.ensures.said in
    (said.0, IsNotAsked c.in-Err.fault c.in-Err.ensures.err said.1 c.in-Err.ensures.same, said.2)

pub returns-in-Err-Full-clause-said : goal.returns-in-Err-Full-clause-said
returns-in-Err-Full-clause-said g c = let said = c.ask_again.ensures.said in (
  said.0,
  subst (λ seat. IsAnswered (Client c.args.client) c.args.hall c.args.ask.now seat c.ask_again.new.crew.caller.seat said.0) c.in-Err-Full.ensures.same
      said.1,
  said.2,
)
