use Rattle.rk_rings.proofs.Words.{◌∙◌, ap, ltb, count_at, is_held}
use Rattle.rk_rings.proofs.Counted.{held_by_count}
use Rattle.rk_rings.proofs.rings.Rings.is_held.Goals as goal

pub returns : goal.returns
returns c =
    ap (ltb 0) (c.of.ensures ∙ ap (count_at c.self.inside.counts.facts) c.get.ensures.number ∙ c.self.invariant.counted.each c.args.key)
    ∙ held_by_count c.self.inside.rows.facts c.args.key ∙ ap (λ m. is_held m c.args.key) c.self.view_is
