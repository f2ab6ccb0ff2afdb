use Rattle.std.proofs.Common.{◌≡◌, ◌≤◌}
use Rattle.rk_devices.specs.Counts.{raised_by}
use Rattle.rk_devices.specs.Shown.{GoesOn}
use Rattle.rk_devices.proofs.Hearing.{KeepsMore}
use Rattle.rk_devices.proofs.reading.keep.Given as goal

abbrev pub invariant-loop : goal.invariant-loop
invariant-loop g l = record {
  goes_on : GoesOn (g.C.Child.shown l.fn.child) (g.C.Child.shown l.child);
  kept : KeepsMore (g.C.Child.shown l.fn.child) (g.C.Child.shown l.child) l.fn.output l.output;
  reads : l.counter ≤ (g.C.Child.shown l.child).reads;
  times : (g.C.Child.shown l.child).reads ≡ raised_by l.counter (g.C.Child.shown l.fn.child).reads;
}
