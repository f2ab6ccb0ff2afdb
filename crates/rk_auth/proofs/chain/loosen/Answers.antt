use Rattle.rk_auth.proofs.Words.{◌∙◌, sym}
use Rattle.rk_auth.proofs.Rounds.{loosening_goes_on, loosened, loosened_at_last, there_still, there_first}
use Rattle.rk_auth.proofs.chain.loosen.Goals as goal

pub push-requires-clause-place : goal.push-requires-clause-place
push-requires-clause-place c =
    there_still c.loop-step.slots.facts c.unlink.new.slots.facts c.in-Some.place (c.unlink.ensures.standing c.in-Some.place)
    (there_first c.loop-step.slots.facts c.args.home c.in-Some.place c.loop-step.invariant.0.chained (sym c.first.ensures ∙ c.in-Some.is))

pub loop-step-preserved : goal.loop-step-preserved
loop-step-preserved c = (
  loosening_goes_on c.args.slots.now.facts c.loop-step.slots.facts c.unlink.new.slots.facts c.push.new.slots.facts c.args.home c.args.other c.in-Some.place
      c.loop-step.step c.len-step-end.result c.loop-step.invariant.0 c.requires.apart (sym c.first.ensures ∙ c.in-Some.is) c.unlink.ensures.standing
      c.unlink.ensures.homes c.push.ensures.chained c.push.ensures.standing c.push.ensures.homes,
  c.push.ensures.room ∙ c.unlink.ensures.room ∙ c.loop-step.invariant.1,
)

pub returns-in_default-clause-homes : goal.returns-in_default-clause-homes
returns-in_default-clause-homes c =
    loosened c.args.slots.now.facts c.loop-step.slots.facts c.args.home c.args.other c.loop-step.step c.len-step-end.result c.loop-step.invariant.0
    (sym c.in_default.is ∙ c.first.ensures)

pub returns-clause-homes : goal.returns-clause-homes
returns-clause-homes c =
    loosened_at_last c.args.slots.now.facts c.loop-step.slots.facts c.args.home c.args.other c.loop-step.step c.len-step-end.result c.loop-step.invariant.0
    c.loop-step-test.false
