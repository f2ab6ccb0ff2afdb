use Rattle.std.proofs.Common.{◌≤◌, take}
use Rattle.rk_ctl.specs.Searching.{HasSwept}
use Rattle.rk_ctl.proofs.searching.sweep.Given as goal

abbrev pub invariant-loop-key : goal.invariant-loop-key
invariant-loop-key g l = record {
  bound : l.count ≤ l.key-index;
  swept : HasSwept (g.W.Write.contents l.fn.writer) (g.R.Read.remaining l.fn.reader) (take l.key-index l.fn.keys)
      (g.W.Write.contents l.writer) (g.R.Read.remaining l.reader) l.count;
}
