use Rattle.rk_auth.proofs.Words.{◌∙◌, refl, in_standing}
use Rattle.rk_auth.proofs.Rounds.{round_begins, round_goes_on, round_ends}
use Rattle.rk_auth.proofs.chain.change_chain.Goals as goal

pub loop-step-init : goal.loop-step-init
loop-step-init g c = (
  round_begins (in_standing (g.C.ChangeOnce.changed c.args.change)) c.args.slots.now.facts c.args.home c.first-at.result c.len-step-end.result c.requires
      c.first-at.ensures c.len-step-end.ensures,
  refl,
)

pub loop-step-preserved : goal.loop-step-preserved
loop-step-preserved g c = (
  round_goes_on (g.C.ChangeOnce.changed c.args.change) c.args.slots.now.facts c.loop-step.slots.facts c.change.new.self.facts c.args.home c.loop-step.at
      c.in-Some.place c.next-at.result c.loop-step.step c.len-step-end.result c.loop-step.invariant.0 c.in-Some.is c.change.ensures.facts c.next-at.ensures,
  c.change.ensures.room ∙ c.loop-step.invariant.1,
)

pub returns-in_default-clause-facts : goal.returns-in_default-clause-facts
returns-in_default-clause-facts g c =
    round_ends (in_standing (g.C.ChangeOnce.changed c.args.change)) c.args.slots.now.facts c.loop-step.slots.facts c.args.home c.loop-step.at
    c.loop-step.step c.len-step-end.result c.loop-step.invariant.0 c.in_default.is
