use Rattle.std.proofs.Common.{◌≡◌, ◌+◌, take}
use Rattle.rk_record.specs.Record.{Runs}
use Rattle.rk_record.specs.Volumes.{counted}
use Rattle.rk_record.proofs.joining.step_through.Given as goal

abbrev pub invariant-loop-step : goal.invariant-loop-step
invariant-loop-step l = record { run : Runs l.fn.book (take l.step-index l.steps) l.book; number : l.number ≡ counted (l.fn.before + l.step-index) }
