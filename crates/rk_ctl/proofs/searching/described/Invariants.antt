use Rattle.rk_ctl.specs.Searching.{HasDescribed}
use Rattle.rk_ctl.proofs.searching.described.Given as goal

abbrev pub invariant-loop-place : goal.invariant-loop-place
invariant-loop-place g l =
    HasDescribed l.fn.newest (g.W.Write.contents l.fn.writer) (g.R.Read.remaining l.fn.reader) l.place
    (g.W.Write.contents l.writer) (g.R.Read.remaining l.reader) l.listed.keys.items l.listed.text.items
