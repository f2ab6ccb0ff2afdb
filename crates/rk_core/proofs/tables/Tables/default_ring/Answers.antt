use Rattle.rk_core.proofs.Words.{ap, sym, ◌∙◌, default_ring, default_ring-rings_seen, World}
use Rattle.rk_core.proofs.tables.Tables.default_ring.Goals as goal

pub returns : goal.returns
returns c =
    c.choose.ensures ∙ sym (default_ring-rings_seen c.self.inside.rings c.args.context.now c.args.requestor c.args.setting)
    ∙ ap (λ (w : World). default_ring w.rings c.args.context.now c.args.requestor c.args.setting) c.self.view_is
