use Rattle.std.proofs.Common.{Some, refl}
use Rattle.rk_ctl.proofs.asking.ask_for.Goals as goal

pub returns-in-Ok-ask_with-clause-asks : goal.returns-in-Ok-ask_with-clause-asks
returns-in-Ok-ask_with-clause-asks g c = (Some (c.in-Some.place.at, _), rw (c.in_ok-place.ensures, c.in-Some.is) refl, c.in-Ok-ask_with.ensures)
