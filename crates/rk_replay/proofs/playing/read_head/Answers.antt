use Rattle.rk_replay.proofs.Words.{sym, ◌∙◌}
use Rattle.rk_replay.proofs.Scripts.{heard_line, happens_not}
use Rattle.rk_replay.proofs.LinesLeft.{line_cut, number_fits}
use Rattle.rk_replay.proofs.playing.read_head.Goals as goal

pub loop-rest-preserved : goal.loop-rest-preserved
loop-rest-preserved c =
    let left = c.in-Some.left.now in
    let cut = line_cut left c.cut_line.result.0.now c.cut_line.result.1 c.cut_line.ensures.cut in
    let said = c.in_ok-said.said in
    let quiet = happens_not said (sym c.in_default-2.is ∙ c.in_ok-now.ensures.happens) in
    record {
      few = number_fits left c.cut_line.result.1 c.loop-rest.number c.cut_line.ensures.shorter (rw c.in-Some.is at c.loop-rest.invariant.few);
      heard = heard_line _ _ _ _ _ _ _ said quiet c.in_ok-now.ensures.sets (rw (c.in-Some.is, cut, ← c.in_ok-said.ensures) at c.loop-rest.invariant.heard);
    }
