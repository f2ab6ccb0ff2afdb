use Rattle.rk_core.proofs.Words.{sym, ◌∙◌, answer_of}
use Rattle.rk_core.proofs.Stepping.AskByParts.{session_refused, acts_so, asks_first}
use Rattle.rk_core.proofs.tables.Tables.ask.Goals as goal

pub returns-in-Ok-Some-clause-step : goal.returns-in-Ok-Some-clause-step
returns-in-Ok-Some-clause-step c =
    acts_so c.args.self.now c.args.now c.args.id.now c.args.ask c.in-Ok-Some.asker (answer_of c.act.result) c.act.new.self c.in-Ok-Some.ensures.1
    (sym c.in-Ok-Some.ensures.0 ∙ c.in-Ok-Some.field-0-is) c.act.ensures.step

pub returns-in-Ok-None-clause-step : goal.returns-in-Ok-None-clause-step
returns-in-Ok-None-clause-step c =
    asks_first c.args.self.now c.args.now c.args.id.now c.args.ask (answer_of c.first_ask.result) c.first_ask.new.self c.in-Ok-None.ensures.1
    (sym c.in-Ok-None.ensures.0 ∙ c.in-Ok-None.field-0-is) (rw c.ask-in-Ok-None.ensures at c.first_ask.ensures.step)

pub returns-in-Err-clause-step : goal.returns-in-Err-clause-step
returns-in-Err-clause-step c = session_refused c.args.self.now c.args.now c.args.id.now c.args.ask _ c.in-Err.ensures
