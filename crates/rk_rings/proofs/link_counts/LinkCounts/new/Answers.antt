use Rattle.rk_rings.proofs.Words.{◌∙◌, ap, ◌≡◌, arith, ℕ, len, len-empty, nat_cmp}
use Rattle.rk_rings.proofs.Counting.{counting_empty}
use Rattle.rk_rings.proofs.link_counts.LinkCounts.new.Goals as goal

pub invariant_of-result : goal.invariant_of-result
invariant_of-result c = let none : len c.new.result.facts ≡ 0 = ap len c.new.ensures ∙ len-empty nat_cmp ℕ in (omega (arith, none), omega arith)

pub returns : goal.returns
returns c = counting_empty c.new.result.facts c.new.ensures
