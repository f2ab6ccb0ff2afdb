use Rattle.std.proofs.Common.{Ok, Err, refl, sym, ◌∙◌}
use Rattle.rk_ctl.specs.Outcome.{asked_as_handler, asked_as_client, spoke}
use Rattle.rk_ctl.specs.Said.{call_by}
use Rattle.rk_ctl.proofs.Conversing.{asked_as, failed}
use Rattle.rk_ctl.proofs.run.ask_words.Goals as goal

pub returns-in-Ok-ask-clause-done : goal.returns-in-Ok-ask-clause-done
returns-in-Ok-ask-clause-done g c =
    λ zero. let told = c.answer.ensures.told zero in
    asked_as_client (call_by c.in-Some.call) c.in-Ok.ask c.in-Ok-ask.reply
    (asked_as _ _ _ _ _ (Ok c.in-Ok-ask.reply) _ _ _ c.in-Some.ensures (rw c.in-Some-socket.is refl) c.in-Ok.ensures.asks
    (c.as_ref.ensures.value ∙ c.greeting_before.ensures) c.in-Ok-ask.ensures)
    told.0 told.1

pub returns-in-Ok-ask-clause-spoke : goal.returns-in-Ok-ask-clause-spoke
returns-in-Ok-ask-clause-spoke g c =
    spoke (call_by c.in-Some.call) c.in-Ok.ask (Ok c.in-Ok-ask.reply)
    (asked_as _ _ _ _ _ (Ok c.in-Ok-ask.reply) _ _ _ c.in-Some.ensures (rw c.in-Some-socket.is refl) c.in-Ok.ensures.asks
    (c.as_ref.ensures.value ∙ c.greeting_before.ensures) c.in-Ok-ask.ensures)
    (failed _ _ c.answer.ensures.status (λ zero. (c.answer.ensures.told zero).0))

pub returns-in-Some-socket-clause-spoke : goal.returns-in-Some-socket-clause-spoke
returns-in-Some-socket-clause-spoke g c =
    spoke (call_by c.in-Some.call) c.in-Ok.ask (Err c.in-Err-ask.fault)
    (asked_as _ _ _ _ _ (Err c.in-Err-ask.fault) _ _ _ c.in-Some.ensures (rw c.in-Some-socket.is refl) c.in-Ok.ensures.asks
    (c.as_ref.ensures.value ∙ c.greeting_before.ensures) c.in-Err-ask.ensures)
    c.refused.ensures

pub returns-in-Ok-exchange-clause-done : goal.returns-in-Ok-exchange-clause-done
returns-in-Ok-exchange-clause-done g c =
    λ zero. let told = c.answer_alone.ensures.told zero in
    asked_as_handler (call_by c.in-Some.call) c.in-Ok.ask c.in-Ok-exchange.reply (sym c.in-Some.ensures)
    (rw c.in-None.is refl) (sym c.is_lost.ensures ∙ c.if-is_lost.false) c.in-Ok.ensures.asks refl (rw (c.in-Ok.ensures.handler c.in-None.is) at c.in-Ok-exchange.ensures.asked) told.0 told.1

pub returns-in_default-clause-done : goal.returns-in_default-clause-done
returns-in_default-clause-done g c = λ zero. c.search_words.ensures.done zero _ _ _ _
