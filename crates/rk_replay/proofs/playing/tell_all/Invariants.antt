use Rattle.rk_replay.proofs.Words.{◌≡◌, ◌++◌, take, flat_map, output_line}
use Rattle.rk_replay.proofs.playing.tell_all.Given as goal

abbrev pub invariant-loop-output : goal.invariant-loop-output
invariant-loop-output l = l.transcript ≡ l.fn.transcript ++ flat_map output_line (take l.output-index l.outputs)
