use Rattle.rk_replay.proofs.Words.{◌≡◌, None, ◌∙◌}
use Rattle.rk_replay.proofs.Bodies.{played_first, played_line, played_all}
use Rattle.rk_replay.proofs.LinesLeft.{line_cut, number_fits, number_follows}
use Rattle.rk_replay.proofs.playing.play_from.Goals as goal

pub loop-rest-init : goal.loop-rest-init
loop-rest-init c =
    let first = c.args.first.now in
    record {
      fine = c.in_ok-play_happening.ensures.fine;
      conf = c.in_ok-play_happening.ensures.conf;
      few = number_follows c.args.head.now.number first (rw c.requires.first at c.requires.few);
      played = played_first _ _ _ _ _ _ _ _ first c.requires.first c.requires.left c.in_ok-play_happening.ensures.plays;
    }

pub loop-rest-preserved : goal.loop-rest-preserved
loop-rest-preserved c =
    let left = c.in-Some.left.now in
    let cut = line_cut left c.cut_line.result.0.now c.cut_line.result.1 c.cut_line.ensures.cut in
    record {
      fine = c.in_ok-play_line.ensures.fine;
      conf = c.in_ok-play_line.ensures.conf ∙ c.loop-rest.invariant.conf;
      few = number_fits left c.cut_line.result.1 c.loop-rest.number c.cut_line.ensures.shorter (rw c.in-Some.is at c.loop-rest.invariant.few);
      played = played_line _ _ _ _ _ _ _ _ _ _ _ _ (rw (c.in-Some.is, cut) at c.loop-rest.invariant.played)
          (rw c.loop-rest.invariant.conf at c.in_ok-play_line.ensures.plays);
    }

pub returns : goal.returns
returns c =
    let none : c.loop-rest.rest ≡ None = c.in_default.is in
    played_all _ _ _ _ _ _ _ _ (rw none at c.loop-rest.invariant.played)
