use Rattle.rk_core.proofs.Words.{◌≡◌, false, Some, option_map_or, Ring, tidied, cleared_in, StayBut}
use Rattle.std.specs.FinMap as map
use Rattle.std.specs.FinSet as set
use Rattle.rk_core.proofs.tables.Tables.clear.Given as goal

abbrev pub invariant-loop-key : goal.invariant-loop-key
invariant-loop-key l = StayBut (λ j. false) l.self × (tidied (cleared_in (Some l.fn.ring) l.self) ≡ tidied (cleared_in (Some l.fn.ring) l.initial.self))

abbrev pub decreases-loop-key : goal.decreases-loop-key
decreases-loop-key l = option_map_or (λ (r : Ring). set.len r.keys) (map.get l.self.rings l.fn.ring) 0
