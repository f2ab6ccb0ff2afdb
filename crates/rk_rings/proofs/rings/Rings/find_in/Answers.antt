use Rattle.rk_rings.proofs.Words.{sym}
use Rattle.rk_rings.proofs.Changed.{match_found}
use Rattle.rk_rings.proofs.rings.Rings.find_in.Goals as goal

pub returns : goal.returns
returns c =
    match_found c.args.self.now c.args.ring c.args.name c.in_ok-row.field-0.now c.find.result (sym c.in_ok-row.ensures.row) c.in_ok-row.ensures.once
    c.find.ensures
