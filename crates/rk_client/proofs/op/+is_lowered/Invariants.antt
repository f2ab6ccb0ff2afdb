use Rattle.std.proofs.Common.{length}
use Rattle.rk_client.proofs.op.+is_lowered.Given as goal

abbrev pub decreases-is_lowered : goal.decreases-is_lowered
decreases-is_lowered l = length l.name.now
