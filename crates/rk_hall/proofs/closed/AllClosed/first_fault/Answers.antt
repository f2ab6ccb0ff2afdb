use Rattle.std.proofs.Common.{subst, sym, arith}
use Rattle.rk_hall.specs.Settle.{AreGenuineBelow}
use Rattle.rk_hall.proofs.Receipts.{below_none, below_more, number_at, genuine_there, fault_there}
use Rattle.rk_hall.proofs.closed.AllClosed.first_fault.Goals as goal

pub loop-hall-init : goal.loop-hall-init
loop-hall-init g c = below_none _ _ _

pub loop-hall-preserved : goal.loop-hall-preserved
loop-hall-preserved g c =
    below_more _ _ _ _ _ (number_at c.loop-hall.hall-index _ c.loop-hall-test.true) c.loop-hall.invariant
    (genuine_there _ _ _ _ c.hall.ensures c.in-None.ensures)

pub returns-in-Some : goal.returns-in-Some
returns-in-Some g c = (
  _,
  subst (AreGenuineBelow c.args.self.now c.args.volumes.now c.args.receipts.now) (sym (number_at c.loop-hall.hall-index _ c.loop-hall-test.true))
      c.loop-hall.invariant,
  fault_there _ _ _ _ _ c.hall.ensures c.in-Some.ensures,
)

pub returns : goal.returns
returns g c hall lt = let le = c.loop-hall-test.false in c.loop-hall.invariant hall (omega (arith, lt, le))
