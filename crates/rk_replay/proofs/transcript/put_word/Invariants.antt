use Rattle.rk_replay.proofs.Words.{◌≡◌, ◌++◌, take, flat_map, codes, byte_text}
use Rattle.rk_replay.proofs.transcript.put_word.Given as goal

abbrev pub invariant-loop-byte : goal.invariant-loop-byte
invariant-loop-byte l = l.text.items ≡ (l.fn.text.items ++ codes " =") ++ flat_map byte_text (take l.byte-index l.byte-items)
