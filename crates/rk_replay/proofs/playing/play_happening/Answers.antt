use Rattle.rk_replay.proofs.Words.{Some}
use Rattle.rk_replay.proofs.LinesLeft.{on_ok_then}
use Rattle.rk_replay.proofs.playing.play_happening.Goals as goal

pub returns-in-Ok-clause-plays : goal.returns-in-Ok-clause-plays
returns-in-Ok-clause-plays c =
    on_ok_then c.tell_all.result (λ text. (Some c.in-Ok.outputs, c.in-Ok.ensures.order.0, c.in-Ok.ensures.order.1, text))
    (rw c.as_slice.ensures at c.tell_all.ensures)
