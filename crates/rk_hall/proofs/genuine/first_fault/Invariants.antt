use Rattle.rk_hall.proofs.Receipts.{AreHeard}
use Rattle.rk_hall.proofs.genuine.first_fault.Given as goal

abbrev pub invariant-loop-receipt : goal.invariant-loop-receipt
invariant-loop-receipt g l = AreHeard l.hall l.volumes l.receipts l.receipt-index l.last
