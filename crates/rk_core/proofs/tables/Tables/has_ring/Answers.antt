use Rattle.rk_core.proofs.Words.{ap, sym, ◌∙◌, contains_key-rings_seen, World}
use Rattle.std.specs.FinMap as map
use Rattle.rk_core.proofs.tables.Tables.has_ring.Goals as goal

pub returns : goal.returns
returns c =
    c.contains.ensures ∙ sym (contains_key-rings_seen c.self.inside.rings c.args.ring) ∙ ap (λ (w : World). map.contains_key w.rings c.args.ring) c.self.view_is
