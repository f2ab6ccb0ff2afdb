use Rattle.rk_rings.proofs.Words.{◌∙◌, ap, sym, unwrap_or, count_at}
use Rattle.rk_rings.proofs.Counting.{count_counting}
use Rattle.rk_rings.proofs.link_counts.LinkCounts.of.Goals as goal

pub returns : goal.returns
returns c =
    c.unwrap_or.ensures ∙ ap (λ o. unwrap_or o 0) (c.copied.ensures ∙ c.get.ensures) ∙ sym (count_counting c.self.inside.counts.facts c.args.key)
    ∙ ap (λ s. count_at s.facts c.args.key) c.self.view_is
