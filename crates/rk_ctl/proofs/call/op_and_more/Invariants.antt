use Rattle.std.proofs.Common.{◌≡◌, ◌≤◌, length, map}
use Rattle.std.specs.Prelude.{string_bytes}
use Rattle.rk_ctl.specs.Said.{op_and_more}
use Rattle.rk_ctl.proofs.call.op_and_more.Given as goal

abbrev pub invariant-each : goal.invariant-each
invariant-each l = record {
  found : op_and_more (map string_bytes l.fn.words) ≡ op_and_more (map string_bytes l.left);
  shorter : length l.left ≤ length l.fn.words;
}

abbrev pub decreases-each : goal.decreases-each
decreases-each l = length l.left
