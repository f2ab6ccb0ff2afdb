use Rattle.rk_rings.proofs.Words.{◌≡◌, take, list_map, new_ring}
use Rattle.rk_rings.proofs.rings.new_rows.Given as goal

abbrev pub invariant-loop-ring : goal.invariant-loop-ring
invariant-loop-ring l = l.rows.items ≡ list_map (λ w. (w.serial, new_ring w)) (take l.ring-index l.wanted)
