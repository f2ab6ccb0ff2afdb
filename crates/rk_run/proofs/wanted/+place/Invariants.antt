use Rattle.std.proofs.Common.{length}
use Rattle.rk_run.proofs.wanted.+place.Given as goal

abbrev pub decreases-place : goal.decreases-place
decreases-place l = length l.words.now
