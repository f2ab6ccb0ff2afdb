use Rattle.std.proofs.Common.{refl}
use Rattle.rk_ctl.specs.Searching.{listed, swept}
use Rattle.rk_ctl.proofs.searching.ended.Goals as goal

pub returns-in-List : goal.returns-in-List
returns-in-List g c = rw c.in-List.is (listed refl refl refl)

pub returns-in_ok-line_of_number-in-Sweep : goal.returns-in_ok-line_of_number-in-Sweep
returns-in_ok-line_of_number-in-Sweep g c =
    rw c.in-Sweep.is (swept c.in_ok-count-in-Sweep.count (rw c.deref.ensures.value at c.in_ok-count-in-Sweep.ensures) c.in_ok-line_of_number-in-Sweep.ensures)
