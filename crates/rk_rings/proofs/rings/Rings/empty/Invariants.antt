use Rattle.rk_rings.proofs.Words.{◌≡◌, changed_at, cleared}
use Rattle.rk_rings.proofs.Counted.{links_in}
use Rattle.rk_rings.proofs.rings.Rings.empty.Given as goal

abbrev pub invariant-loop-key : goal.invariant-loop-key
invariant-loop-key l = changed_at l.fn.ring cleared l.self ≡ changed_at l.fn.ring cleared l.initial.self

abbrev pub decreases-loop-key : goal.decreases-loop-key
decreases-loop-key l = links_in l.self l.fn.ring
