use Rattle.rk_keys.proofs.Words.{◌≡◌, fed_words}
use Rattle.rk_keys.proofs.naming.feed_many.Given as goal

abbrev pub invariant-loop-word : goal.invariant-loop-word
invariant-loop-word l = l.hasher ≡ fed_words l.fn.bytes l.fn.hasher l.word
