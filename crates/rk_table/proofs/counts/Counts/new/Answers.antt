use Rattle.rk_table.proofs.CountsAt.{positive_empty}
use Rattle.rk_table.proofs.counts.Counts.new.Goals as goal

pub invariant_of-result : goal.invariant_of-result
invariant_of-result c = rw c.new.ensures positive_empty
