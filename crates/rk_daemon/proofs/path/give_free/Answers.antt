use Rattle.rk_daemon.proofs.Takings.{freed_it, spared_it}
use Rattle.rk_daemon.proofs.path.give_free.Goals as goal

pub returns-then-ne : goal.returns-then-ne
returns-then-ne g c = spared_it _ _ _ _ _ _ _ c.identify.ensures c.ok-found.ensures.value c.ne.ensures c.if-ne.true

pub returns : goal.returns
returns g c = freed_it _ _ _ _ _ _ _ c.identify.ensures c.ok-found.ensures.value c.ne.ensures _ _ c.if-ne.false c.remove.ensures
