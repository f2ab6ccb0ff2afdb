use Rattle.rk_replay.proofs.Words.{◌+◌, map, ◌<◌, ◌^◌, lines_of, readings_left, bytes_left, reading_of}
use Rattle.rk_replay.proofs.Scripts.{Heard}
use Rattle.rk_replay.proofs.playing.read_head.Given as goal

abbrev pub invariant-loop-rest : goal.invariant-loop-rest
invariant-loop-rest l = record {
  few : l.number + bytes_left l.rest < 2 ^ 64;
  heard : Heard (map reading_of (lines_of l.fn.text)) (readings_left l.rest) l.settings l.number l.transcript;
}

abbrev pub decreases-loop-rest : goal.decreases-loop-rest
decreases-loop-rest l = bytes_left l.rest
