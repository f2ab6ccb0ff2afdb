use Rattle.rk_served.proofs.ServedLaws as laws
use Rattle.rk_served.proofs.replay.served_is_run.Goals as goal

pub returns : goal.returns
returns c = laws.served_is_run
