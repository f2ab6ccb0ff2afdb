use Rattle.rk_rejoin.proofs.Words.{◌<◌, length, take, flat_map, steps_of, of_hall}
use Rattle.rk_rejoin.proofs.judging.broken_at.Given as goal

abbrev pub invariant-loop-volume : goal.invariant-loop-volume
invariant-loop-volume l = length (flat_map steps_of (of_hall l.hall (take l.volume-index l.volumes))) < l.number
