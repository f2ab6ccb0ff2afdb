use Rattle.std.proofs.Common.{◌≡◌, ◌++◌, Some, ap, append_assoc}
use Rattle.std.specs.Prelude.{codes, decimal}
use Rattle.rk_daemon.specs.Figures.{in_run_text, oldest_text, running_and}
use Rattle.rk_daemon.specs.declared.figures.InRun.{InRun}
use Rattle.rk_daemon.specs.declared.figures.Oldest.{Oldest}
use Rattle.rk_daemon.proofs.figures.InRunDisplay.fmt.Goals as goal

-- the text, where a handler runs
text_of : (r : InRun) (o : Oldest) → r.oldest ≡ Some o → in_run_text r ≡ running_and r.count (Some o)
text_of r o e = ap (running_and r.count) e

pub returns-in-Some-clause-writes : goal.returns-in-Some-clause-writes
returns-in-Some-clause-writes g c =
    let r = c.args.self.now in
    let o = c.in-Some.oldest in
    rw (text_of r o c.in-Some.is, append_assoc (codes "handlers " ++ decimal r.count) (codes ", ") (oldest_text o)) c.write.ensures.writes
