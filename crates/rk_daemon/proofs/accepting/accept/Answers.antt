use Rattle.rk_daemon.proofs.Acceptings.{leads_last, leads_on}
use Rattle.rk_daemon.proofs.accepting.accept.Goals as goal

pub loop-preserved : goal.loop-preserved
loop-preserved g c = record { leads = leads_on c.args.until c.loop.last c.in-Some-let_in.number _ _ _ c.loop.invariant.leads c.in-Some-let_in.ensures }

pub returns-in-None-let_in : goal.returns-in-None-let_in
returns-in-None-let_in g c = leads_last c.args.until c.loop.last _ _ _ c.loop.invariant.leads c.in-None-let_in.ensures
