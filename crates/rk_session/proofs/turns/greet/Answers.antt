use Rattle.rk_session.proofs.Words.{subst, ◌∙◌, Speaks}
use Rattle.rk_session.proofs.Sendings.{counts_then}
use Rattle.rk_session.proofs.turns.greet.Goals as goal

pub say-requires : goal.say-requires
say-requires g c = c.admitted-saying.ensures.settled

pub returns-clause-ends : goal.returns-clause-ends
returns-clause-ends g c body spells = (
  c.admitted-saying.result,
  c.admitted-saying.ensures.says body spells,
  subst (λ story. Speaks c.admitted-saying.result c.say.result story (g.W.Wire.shown c.say.new.wire)) c.admitted-saying.ensures.pushes.story
      c.say.ensures.speaks,
)

pub returns-clause-counts : goal.returns-clause-counts
returns-clause-counts g c = counts_then _ _ _ c.admitted-saying.ensures.pushes.counts c.say.ensures.counts

pub returns-clause-reads : goal.returns-clause-reads
returns-clause-reads g c = c.say.ensures.reads ∙ c.admitted-saying.ensures.pushes.reads
