use Rattle.rk_keys.proofs.Held.{held_empty}
use Rattle.rk_keys.proofs.Indexed.{index_empty}
use Rattle.rk_keys.proofs.UserCounts.{counts_empty}
use Rattle.rk_keys.proofs.keys.Keys.new.Goals as goal

pub invariant_of-result : goal.invariant_of-result
invariant_of-result c =
    rw (c.in_ok-with_room.ensures.empty, c.in_ok-with_room-2.ensures.empty, c.in_ok-with_room-3.ensures.empty, c.in_ok-with_room-4.ensures.empty)
    record { held = held_empty c.new.result; index = index_empty c.args.seed; counts = counts_empty }
