use Rattle.std.proofs.Common.{length}
use Rattle.rk_client.proofs.argument.+named.Given as goal

abbrev pub decreases-named : goal.decreases-named
decreases-named l = length l.table.now
