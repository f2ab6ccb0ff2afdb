use Rattle.rk_table.proofs.Words.{◌∙◌, ap, sym, ◌≡◌, cond, subst, arith, ◌<◌, ◌-◌, nat_eq, count_at, ArePositive}
use Rattle.std.specs.FinMap as map
use Rattle.rk_table.proofs.CountsAt.{count_out, count_become, count_by, has_count, positive_out, positive_become}
use Rattle.rk_table.proofs.counts.Counts.one_less.Goals as goal

pub invariant_of-self : goal.invariant_of-self
invariant_of-self c = subst ArePositive (sym c.remove.ensures.facts) (positive_out c.self.inside.counts.facts c.args.number c.self.invariant)

pub invariant_of-self-else-count-le1 : goal.invariant_of-self-else-count-le1
invariant_of-self-else-count-le1 c =
    subst ArePositive (sym c.change.ensures.facts)
    (positive_become c.self.inside.counts.facts c.args.number (c.of-count.result - 1) (omega (arith, c.if-count-le1.false)) c.self.invariant)

pub returns-then-count-le1-clause-positive : goal.returns-then-count-le1-clause-positive
returns-then-count-le1-clause-positive c = invariant_of-self c

pub returns-else-count-le1-clause-positive : goal.returns-else-count-le1-clause-positive
returns-else-count-le1-clause-positive c = invariant_of-self-else-count-le1 c

pub returns-then-count-le1-clause-each : goal.returns-then-count-le1-clause-each
returns-then-count-le1-clause-each c q =
    let count : c.of-count.result ≡ count_at c.self.inside.counts.facts c.args.number = c.of-count.ensures ∙ ap (λ s. count_at s.facts c.args.number) (sym c.self.view_is) in
    ap (λ m. count_at m q) c.remove.ensures.facts ∙ count_out c.self.inside.counts.facts c.args.number q
    ∙ count_by c.self.inside.counts.facts (λ n. n - 1) c.args.number 0 q (omega (arith, count, c.if-count-le1.true))
    ∙ ap (λ s. cond (nat_eq c.args.number q) (count_at s.facts q - 1) (count_at s.facts q)) c.self.view_is

pub returns-else-count-le1-clause-each : goal.returns-else-count-le1-clause-each
returns-else-count-le1-clause-each c q =
    let count : c.of-count.result ≡ count_at c.self.inside.counts.facts c.args.number = c.of-count.ensures ∙ ap (λ s. count_at s.facts c.args.number) (sym c.self.view_is) in
    let some : 0 < count_at c.self.inside.counts.facts c.args.number = omega (arith, count, c.if-count-le1.false) in
    ap (λ m. count_at m q) c.change.ensures.facts
    ∙ count_become c.self.inside.counts.facts c.args.number (c.of-count.result - 1) q (has_count (map.get c.self.inside.counts.facts c.args.number) some)
    ∙ count_by c.self.inside.counts.facts (λ n. n - 1) c.args.number (c.of-count.result - 1) q (ap (λ n. n - 1) count)
    ∙ ap (λ s. cond (nat_eq c.args.number q) (count_at s.facts q - 1) (count_at s.facts q)) c.self.view_is
