use Rattle.rk_replay.proofs.Words.{◌≡◌, ◌+◌, ◌<◌, false, ◌^◌, readings_left, readings_from, bytes_left}
use Rattle.rk_replay.proofs.Bodies.{Played}
use Rattle.rk_replay.proofs.playing.play_from.Given as goal

abbrev pub invariant-loop-rest : goal.invariant-loop-rest
invariant-loop-rest l = record {
  fine : l.replay.broken ≡ false;
  conf : l.replay.conf ≡ l.fn.replay.conf;
  few : l.number + bytes_left l.rest < 2 ^ 64;
  played : Played l.fn.replay.conf (record { negative = l.fn.head.settings.negative; first = 1; stride = 1 }) l.fn.head.number l.number
      (readings_from l.fn.head.first) (readings_left l.rest) l.fn.transcript l.transcript l.replay.left;
}

abbrev pub decreases-loop-rest : goal.decreases-loop-rest
decreases-loop-rest l = bytes_left l.rest
