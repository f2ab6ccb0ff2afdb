use Rattle.rk_core.proofs.Words.{◌∙◌, ap, without_ring}
use Rattle.rk_core.proofs.Vanishing.WhichMayVanish.{drop_tidies}
use Rattle.rk_core.proofs.tables.Tables.drop_ring.Goals as goal

pub returns : goal.returns
returns c = c.forget_ring.ensures ∙ ap (without_ring c.args.ring) c.clear.ensures ∙ drop_tidies c.args.self.now c.args.ring
