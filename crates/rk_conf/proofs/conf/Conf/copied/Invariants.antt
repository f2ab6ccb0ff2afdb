use Rattle.std.proofs.Common.{◌≡◌, ◌+◌, ◌≤◌, ◌++◌, [], length}
use Rattle.std.specs.List.{filter_map}
use Rattle.rk_conf.specs.Reading.{fault_at, line_at, lines_in}
use Rattle.rk_conf.proofs.Readings.{lines_left, left_len}
use Rattle.rk_conf.proofs.conf.Conf.copied.Given as goal

abbrev pub invariant-loop-rest : goal.invariant-loop-rest
invariant-loop-rest l = record {
  counted : l.number + left_len l.rest ≤ length l.fn.text + 2;
  sound : filter_map fault_at (lines_left l.number l.rest) ≡ [];
  left : l.lines.items ++ filter_map line_at (lines_left l.number l.rest) ≡ lines_in l.fn.text;
}

abbrev pub decreases-loop-rest : goal.decreases-loop-rest
decreases-loop-rest l = left_len l.rest
