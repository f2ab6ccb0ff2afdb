use Rattle.rk_conf.proofs.Readings.{none_first, on_ok}
use Rattle.rk_conf.proofs.conf.Conf.read.Goals as goal

pub copied-requires : goal.copied-requires
copied-requires c = none_first _ c.in-None.ensures

pub returns-in-None-clause-ok : goal.returns-in-None-clause-ok
returns-in-None-clause-ok c = on_ok c.copied.result (none_first _ c.in-None.ensures)
