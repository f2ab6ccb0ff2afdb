use Rattle.rk_volumes.proofs.Words.{Holds256, ◌++◌, length, take, Appends, flat_map, AllByRecursion, IsHead, step_bytes, IsStep, IsSeal}
use Rattle.rk_volumes.proofs.Filed.{lead}
use Rattle.rk_volumes.proofs.seal.Seal.store.Given as goal

abbrev pub invariant-loop-step : goal.invariant-loop-step
invariant-loop-step g l = record {
  seal : IsSeal l.self;
  head : IsHead l.head (length l.steps);
  each : AllByRecursion IsStep (take l.step-index l.steps);
  bytes : Appends (g.W.Write.contents l.fn.writer) (g.W.Write.contents l.writer)
      (lead l.self l.head (length l.steps) ++ flat_map step_bytes (take l.step-index l.steps));
  sum : Holds256 l.hasher (lead l.self l.head (length l.steps) ++ flat_map step_bytes (take l.step-index l.steps));
}
