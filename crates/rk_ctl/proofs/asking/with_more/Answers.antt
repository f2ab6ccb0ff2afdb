use Rattle.rk_ctl.proofs.Inserting.{inserted}
use Rattle.rk_ctl.proofs.asking.with_more.Goals as goal

pub returns-in-Ok-insert : goal.returns-in-Ok-insert
returns-in-Ok-insert c = rw (c.in-Some.is, c.in-Ok-insert.ensures.items) (inserted (λ s. s.now) _ _ c.in-Some.at c.in-Some.bytes c.in-Ok.ensures)
