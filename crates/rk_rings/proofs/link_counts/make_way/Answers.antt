use Rattle.rk_rings.proofs.Words.{◌∙◌, ap, ltb, get, none_kept, counting}
use Rattle.rk_rings.proofs.Counting.{counting_again}
use Rattle.rk_rings.proofs.link_counts.make_way.Goals as goal

pub returns-then-len-most-clause-facts : goal.returns-then-len-most-clause-facts
returns-then-len-most-clause-facts c = ap counting c.retain.ensures.facts ∙ counting_again c.args.counts.now.facts

pub returns-then-len-most-clause-absent : goal.returns-then-len-most-clause-absent
returns-then-len-most-clause-absent c k none = ap (λ m. get m k) c.retain.ensures.facts ∙ none_kept (λ _ n. ltb 0 n) c.args.counts.now.facts k none
