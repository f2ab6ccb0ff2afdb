use Rattle.rk_rings.proofs.Links.{walked_none}
use Rattle.rk_rings.proofs.row.Row.find_by_walk.Goals as goal

pub returns-in_err-find : goal.returns-in_err-find
returns-in_err-find c = rw (c.from_residual.ensures, ← c.self.view_is) (walked_none c.self.inside.links.facts c.args.name c.in_err-find.ensures)
