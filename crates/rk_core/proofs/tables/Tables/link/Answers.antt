use Rattle.rk_core.proofs.Words.{◌∙◌, vanished_at}
use Rattle.rk_core.proofs.Vanishing.WhichMayVanish.{link_tidies}
use Rattle.rk_core.proofs.tables.Tables.link.Goals as goal

pub returns : goal.returns
returns c = (
  c.in_ok-rival.ensures.0,
  c.let_vanish.ensures ∙ (λ i. vanished_at (c.unwrap_or.ensures i) (c.in_ok-rival.ensures.1 i))
      ∙ link_tidies c.args.self.now c.args.ring c.args.key c.in_ok-rival.rival c.in_ok-rival.ensures.2 c.requires.tidy,
)
