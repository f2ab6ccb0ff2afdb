use Rattle.rk_rings.proofs.Words.{◌∙◌, ap, arith, cond, ◌≤◌, ◌-◌, len, nat_eq, count_at, places}
use Rattle.rk_rings.proofs.Changed.{len-changed_at}
use Rattle.rk_rings.proofs.Counting.{positive_counting, each_seen, count_less, same_places}
use Rattle.rk_rings.proofs.link_counts.LinkCounts.one_less.Goals as goal

pub returns-clause-each : goal.returns-clause-each
returns-clause-each c q =
    let m = c.self.inside.counts.facts in
    each_seen m c.change.new.self.facts (λ n. n - 1) c.args.key q (ap (λ x. count_at x q) c.change.ensures.facts ∙ count_less m c.args.key q)
    ∙ ap (λ s. cond (nat_eq c.args.key q) (count_at s.facts q - 1) (count_at s.facts q)) c.self.view_is

pub returns-clause-positive : goal.returns-clause-positive
returns-clause-positive c = positive_counting c.change.new.self.facts

pub returns-clause-places : goal.returns-clause-places
returns-clause-places c =
    let m = c.self.inside.counts.facts in
    let few : len c.change.new.self.facts ≤ c.self.inside.most = omega (
      arith,
      ap len c.change.ensures.facts,
      len-changed_at c.args.key (λ n. n - 1) m,
      c.self.invariant.0,
    ) in
    same_places m c.change.new.self.facts c.self.inside.most c.self.invariant.0 few ∙ ap places c.self.view_is
