use Rattle.std.proofs.Common.{◌≡◌, length}
use Rattle.rk_daemon.proofs.Hearings.{Listens}
use Rattle.rk_daemon.proofs.hearing.hear.Given as goal

abbrev pub invariant-loop : goal.invariant-loop
invariant-loop g l = record {
  same : length l.buf ≡ length l.fn.buf;
  listens : Listens l.fn.lull (g.L.Line.story l.fn.line) (g.L.Line.story l.line) l.lull;
}
