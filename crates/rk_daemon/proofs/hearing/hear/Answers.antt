use Rattle.std.proofs.Common.{refl, ◌∙◌}
use Rattle.rk_daemon.proofs.Hearings.{listens_first, listens_last, listens_on}
use Rattle.rk_daemon.proofs.hearing.hear.Goals as goal

pub loop-init : goal.loop-init
loop-init g c = record { same = refl; listens = listens_first _ _ }

pub returns-in-Some-hear_once-clause-hears : goal.returns-in-Some-hear_once-clause-hears
returns-in-Some-hear_once-clause-hears g c = listens_last _ _ _ _ _ _ _ c.loop.invariant.listens c.in-Some-hear_once.ensures.hears

pub loop-preserved : goal.loop-preserved
loop-preserved g c = record {
  same = c.in_default.ensures.same ∙ c.loop.invariant.same;
  listens = listens_on _ _ _ _ _ _ c.loop.invariant.listens c.in_default.ensures.hears;
}
