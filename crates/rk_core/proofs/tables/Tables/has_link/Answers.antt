use Rattle.rk_core.proofs.Words.{ap, sym, ◌∙◌, has_link, has_link-rings_seen, World}
use Rattle.rk_core.proofs.tables.Tables.has_link.Goals as goal

pub returns : goal.returns
returns c = c.is_held.ensures ∙ sym (has_link-rings_seen c.self.inside.rings c.args.key) ∙ ap (λ (w : World). has_link w.rings c.args.key) c.self.view_is
