use Rattle.std.proofs.Common.{◌≡◌, length, take}
use Rattle.std.specs.List.{flat_map}
use Rattle.rk_machine.specs.World.{empty_world}
use Rattle.rk_record.specs.Record.{Runs}
use Rattle.rk_record.specs.Volumes.{counted}
use Rattle.rk_record.proofs.joining.rejoin.Given as goal

abbrev pub invariant-loop-volume : goal.invariant-loop-volume
invariant-loop-volume l = record {
  run : Runs (empty_world l.fn.limits.negative l.fn.limits.first l.fn.limits.stride) (flat_map (λ v. v.now) (take l.volume-index l.volumes)) l.book;
  number : l.number ≡ counted (length (flat_map (λ v. v.now) (take l.volume-index l.volumes)));
}
