-- How much there is in the halls.
use Rattle.rk_hall.specs.declared.counts.Counts.{Counts}
use Rattle.rk_daemon.specs.declared.figures.InHalls.{InHalls}

-- what was counted in the four halls
abbrev pub in_halls : Counts → Counts → Counts → Counts → InHalls
in_halls z o t h = record {
  keys = record { zero = z.keys; one = o.keys; two = t.keys; three = h.keys };
  constructions = record { zero = z.constructions; one = o.constructions; two = t.constructions; three = h.constructions };
  edquots = record { zero = z.edquots; one = o.edquots; two = t.edquots; three = h.edquots };
}
