use Rattle.rk_rings.proofs.Words.{None}
use Rattle.rk_rings.proofs.Links.{any_key}
use Rattle.rk_rings.proofs.row.Row.first.Goals as goal

pub returns-in_err-find : goal.returns-in_err-find
returns-in_err-find c = rw (c.from_residual.ensures, ← c.self.view_is) (any_key c.self.inside.links.facts None c.in_err-find.ensures)
