use Rattle.std.proofs.Common.{◌≡◌, take}
use Rattle.rk_live_tests.proofs.fakes.telling.copied.Given as goal

abbrev pub invariant-loop-word : goal.invariant-loop-word
invariant-loop-word l = l.words.items ≡ take l.word-index l.word-items
