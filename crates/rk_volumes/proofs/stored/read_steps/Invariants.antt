use Rattle.rk_volumes.proofs.Words.{◌++◌, ◌≡◌, length, flat_map, AllByRecursion, step_bytes, IsStep}
use Rattle.rk_volumes.proofs.stored.read_steps.Given as goal

abbrev pub invariant-loop-place : goal.invariant-loop-place
invariant-loop-place l = record {
  count : length l.steps.items ≡ l.place;
  each : AllByRecursion IsStep l.steps.items;
  bytes : l.bytes ≡ flat_map step_bytes l.steps.items ++ l.rest;
}
