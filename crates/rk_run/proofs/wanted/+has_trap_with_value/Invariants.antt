use Rattle.std.proofs.Common.{length}
use Rattle.rk_run.proofs.wanted.+has_trap_with_value.Given as goal

abbrev pub decreases-has_trap_with_value : goal.decreases-has_trap_with_value
decreases-has_trap_with_value l = length l.words.now
