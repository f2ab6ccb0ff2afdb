use Rattle.std.proofs.Common.{◌≡◌, map, take, option_map}
use Rattle.rk_preview.specs.Behind.{known_word}
use Rattle.rk_preview.proofs.behind.known_words.Given as goal

abbrev pub invariant-loop-argument : goal.invariant-loop-argument
invariant-loop-argument l = map (option_map (λ s. s.now)) l.words.items ≡ map known_word (take l.argument-index l.fn.arguments)
