use Rattle.rk_hall.proofs.Receipts.{NoneNamed}
use Rattle.rk_hall.proofs.genuine.was_handed_in.Given as goal

abbrev pub invariant-loop-volume : goal.invariant-loop-volume
invariant-loop-volume g l = NoneNamed l.volumes l.receipt l.volume-index
