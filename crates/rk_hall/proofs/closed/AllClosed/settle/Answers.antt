use Rattle.std.proofs.Common.{rules}
use Rattle.rk_hall.proofs.Receipts.{settles_fault}
use Rattle.rk_hall.proofs.closed.AllClosed.settle.Goals as goal

pub returns-in-Some-clause-settles : goal.returns-in-Some-clause-settles
returns-in-Some-clause-settles g c = settles_fault _ _ _ _ (search rules) c.in-Some.ensures
