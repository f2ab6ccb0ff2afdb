use Rattle.rk_core.proofs.Words.{ap, sym, ◌∙◌, is_linked, is_linked-rings_seen, World}
use Rattle.rk_core.proofs.tables.Tables.is_linked.Goals as goal

pub returns : goal.returns
returns c =
    c.holds.ensures ∙ sym (is_linked-rings_seen c.self.inside.rings c.args.ring c.args.key)
    ∙ ap (λ (w : World). is_linked w.rings c.args.ring c.args.key) c.self.view_is
