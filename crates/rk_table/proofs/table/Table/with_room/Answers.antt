use Rattle.rk_table.proofs.Words.{◌∙◌, ap, nat_cmp}
use Rattle.std.specs.FinMap as map
use Rattle.rk_table.proofs.table.Table.with_room.Goals as goal

pub returns-clause-len : goal.returns-clause-len
returns-clause-len g c = ap (λ es. map.len (map.from_entries {R = nat_cmp} es)) c.in_ok-with_capacity.ensures.items ∙ map.len-empty nat_cmp g.row.V.Denot
