use Rattle.rk_ctl.proofs.Describing.{nothing_yet, one_further}
use Rattle.rk_ctl.proofs.searching.described.Goals as goal

pub loop-place-init : goal.loop-place-init
loop-place-init g c = nothing_yet _ _ _ _ _ c.new.ensures.items c.new-2.ensures.items

pub loop-place-preserved : goal.loop-place-preserved
loop-place-preserved g c = one_further _ _ _ _ _ _ _ _ _ _ _ _ _ c.loop-place.invariant c.serial_at.ensures.is c.in_ok-describe.ensures
