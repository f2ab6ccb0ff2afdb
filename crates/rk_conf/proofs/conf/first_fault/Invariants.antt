use Rattle.std.proofs.Common.{◌≡◌, ◌+◌, ◌≤◌, length}
use Rattle.std.specs.List.{filter_map}
use Rattle.rk_conf.specs.Reading.{fault_at, faults_in}
use Rattle.rk_conf.proofs.Readings.{lines_left, left_len}
use Rattle.rk_conf.proofs.conf.first_fault.Given as goal

abbrev pub invariant-loop-rest : goal.invariant-loop-rest
invariant-loop-rest l = record {
  counted : l.number + left_len l.rest ≤ length l.fn.text + 2;
  left : filter_map fault_at (lines_left l.number l.rest) ≡ faults_in l.fn.text;
}

abbrev pub decreases-loop-rest : goal.decreases-loop-rest
decreases-loop-rest l = left_len l.rest
