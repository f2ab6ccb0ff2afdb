use Rattle.rk_hall.proofs.Receipts.{StandsInNone}
use Rattle.rk_hall.proofs.genuine.stands_in_one.Given as goal

abbrev pub invariant-loop-volume : goal.invariant-loop-volume
invariant-loop-volume g l = StandsInNone l.volumes l.receipt l.volume-index
