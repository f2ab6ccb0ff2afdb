use Rattle.rk_table.proofs.CountsAt.{positive_empty}
use Rattle.rk_table.proofs.counts.Counts.with_room.Goals as goal

pub invariant_of-result : goal.invariant_of-result
invariant_of-result c = rw c.in_ok-with_room.ensures.empty positive_empty
