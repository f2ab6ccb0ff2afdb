use Rattle.std.proofs.Common.{length}
use Rattle.rk_preview.proofs.exposure.+exposed_in.Given as goal

abbrev pub decreases-exposed_in : goal.decreases-exposed_in
decreases-exposed_in l = length l.arguments.now
