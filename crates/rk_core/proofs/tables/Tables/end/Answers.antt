use Rattle.rk_core.proofs.Words.{◌∙◌, ap, vanished_at}
use Rattle.rk_core.proofs.Vanishing.WhichMayVanish.{end_tidies}
use Rattle.rk_core.proofs.tables.Tables.end.Goals as goal

pub returns : goal.returns
returns c =
    c.let_vanish.ensures ∙ ap (vanished_at c.args.key) c.end_construction.ensures
    ∙ end_tidies c.args.self.now c.args.now c.args.key c.args.condition c.requires.tidy
