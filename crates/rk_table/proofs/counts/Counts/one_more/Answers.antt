use Rattle.rk_table.proofs.Words.{◌∙◌, ap, sym, ◌≡◌, cond, subst, arith, ◌+◌, Some, None, nat_eq, is_some, unwrap_or, count_at, ArePositive}
use Rattle.std.specs.FinMap as map
use Rattle.rk_table.proofs.CountsAt.{count_put, count_become, count_by, positive_put, positive_become}
use Rattle.rk_table.proofs.counts.Counts.one_more.Goals as goal

pub invariant_of-self : goal.invariant_of-self
invariant_of-self c = subst ArePositive (sym c.change.ensures.facts) (positive_become c.self.inside.counts.facts c.args.number (c.in-Some.count + 1) (omega arith) c.self.invariant)

pub invariant_of-self-in-None : goal.invariant_of-self-in-None
invariant_of-self-in-None c = subst ArePositive (sym c.insert.ensures.facts) (positive_put c.self.inside.counts.facts c.args.number 1 (omega arith) c.self.invariant)

pub returns-in-Some-clause-positive : goal.returns-in-Some-clause-positive
returns-in-Some-clause-positive c = invariant_of-self c

pub returns-in-None-clause-positive : goal.returns-in-None-clause-positive
returns-in-None-clause-positive c = invariant_of-self-in-None c

pub returns-in-Some-clause-each : goal.returns-in-Some-clause-each
returns-in-Some-clause-each c q =
    let is : Some c.in-Some.count ≡ map.get c.self.inside.counts.facts c.args.number = c.in-Some.ensures ∙ c.get.ensures in
    ap (λ m. count_at m q) c.change.ensures.facts
    ∙ count_become c.self.inside.counts.facts c.args.number (c.in-Some.count + 1) q (ap is_some (sym is))
    ∙ count_by c.self.inside.counts.facts (λ n. n + 1) c.args.number (c.in-Some.count + 1) q (ap (λ o. unwrap_or o 0 + 1) is)
    ∙ ap (λ s. cond (nat_eq c.args.number q) (count_at s.facts q + 1) (count_at s.facts q)) c.self.view_is

pub returns-in-None-clause-each : goal.returns-in-None-clause-each
returns-in-None-clause-each c q =
    let is : None ≡ map.get c.self.inside.counts.facts c.args.number = c.in-None.ensures ∙ c.get.ensures in
    ap (λ m. count_at m q) c.insert.ensures.facts ∙ count_put c.self.inside.counts.facts c.args.number 1 q
    ∙ count_by c.self.inside.counts.facts (λ n. n + 1) c.args.number 1 q (ap (λ o. unwrap_or o 0 + 1) is)
    ∙ ap (λ s. cond (nat_eq c.args.number q) (count_at s.facts q + 1) (count_at s.facts q)) c.self.view_is
