use Rattle.rk_core.proofs.Words.{◌∙◌, ap, vanished_at}
use Rattle.rk_core.proofs.Vanishing.WhichMayVanish.{unlink_tidies}
use Rattle.rk_core.proofs.tables.Tables.unlink.Goals as goal

pub returns : goal.returns
returns c = c.let_vanish.ensures ∙ ap (vanished_at c.args.key) c.take_link.ensures ∙ unlink_tidies c.args.self.now c.args.ring c.args.key c.requires.tidy
