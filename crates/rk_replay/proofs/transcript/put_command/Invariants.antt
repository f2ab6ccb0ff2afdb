use Rattle.rk_replay.proofs.Words.{◌≡◌, ◌++◌, take, flat_map, kind_text, word_text}
use Rattle.rk_replay.proofs.transcript.put_command.Given as goal

abbrev pub invariant-loop-word : goal.invariant-loop-word
invariant-loop-word l = l.text.items ≡ (l.fn.text.items ++ (kind_text l.fn.command.piped ++ word_text l.fn.command.path))
    ++ flat_map word_text (take l.word-index l.word-items)
