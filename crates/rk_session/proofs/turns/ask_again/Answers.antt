use Rattle.rk_session.proofs.Words.{subst, ◌∙◌, Client, Speaks, answered_settled}
use Rattle.rk_session.proofs.Sendings.{counts_then}
use Rattle.rk_session.proofs.turns.ask_again.Goals as goal

pub say-requires : goal.say-requires
say-requires g c =
    answered_settled (Client c.args.client) c.args.hall c.args.ask.now c.args.crew.now.caller.seat c.asked-saying.new.crew.caller.seat
    c.asked-saying.result c.asked-saying.ensures.says

pub returns-clause-said : goal.returns-clause-said
returns-clause-said g c = (
  c.asked-saying.result,
  c.asked-saying.ensures.says,
  subst (λ story. Speaks c.asked-saying.result c.say.result story (g.W.Wire.shown c.say.new.wire)) c.asked-saying.ensures.pushes.story
      c.say.ensures.speaks,
)

pub returns-clause-counts : goal.returns-clause-counts
returns-clause-counts g c = counts_then _ _ _ c.asked-saying.ensures.pushes.counts c.say.ensures.counts

pub returns-clause-reads : goal.returns-clause-reads
returns-clause-reads g c = c.say.ensures.reads ∙ c.asked-saying.ensures.pushes.reads
