use Rattle.std.proofs.Common.{length}
use Rattle.rk_ctl.proofs.help.+asks_in_front.Given as goal

abbrev pub decreases-asks_in_front : goal.decreases-asks_in_front
decreases-asks_in_front l = length l.words.now
