use Rattle.std.proofs.Common.{length}
use Rattle.rk_wrappers.proofs.walk.+walked.Given as goal

abbrev pub decreases-walked : goal.decreases-walked
decreases-walked l = length l.words.now
