use Rattle.rk_rings.proofs.Changed.{rows-empty}
use Rattle.rk_rings.proofs.Counted.{counted_empty}
use Rattle.rk_rings.proofs.UserRings.{users_empty}
use Rattle.rk_rings.proofs.rings.Rings.new.Goals as goal

pub invariant_of-result : goal.invariant_of-result
invariant_of-result c = record {
  rows = rows-empty _ c.new.ensures;
  users = users_empty _ _ c.new.ensures c.new-2.ensures;
  counted = counted_empty _ _ c.new.ensures c.new-3.ensures;
}
