use Rattle.rk_conf.proofs.Choices.{picks_one_line}
use Rattle.rk_conf.proofs.conf.picks_one.Goals as goal

pub returns : goal.returns
returns c = picks_one_line
