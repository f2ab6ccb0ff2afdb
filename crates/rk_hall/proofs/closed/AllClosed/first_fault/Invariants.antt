use Rattle.rk_hall.specs.Settle.{AreGenuineBelow}
use Rattle.rk_hall.proofs.closed.AllClosed.first_fault.Given as goal

abbrev pub invariant-loop-hall : goal.invariant-loop-hall
invariant-loop-hall g l = AreGenuineBelow l.self l.volumes l.receipts l.hall-index
