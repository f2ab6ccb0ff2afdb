use Rattle.rk_rings.proofs.Words.{◌∙◌, ap, sym, ◌≡◌, arith, cond, ◌≤◌, ◌+◌, ◌<◌, get, len, None, Some, nat_eq, is_some, unwrap_or, count_become, count_by}
use Rattle.rk_rings.proofs.Words.{count_put, count_at, places}
use Rattle.rk_rings.proofs.Changed.{len-changed_at}
use Rattle.rk_rings.proofs.Counting.{count_counting, positive_counting, each_seen, same_counts, same_places, place_free}
use Rattle.rk_rings.proofs.link_counts.LinkCounts.one_more.Goals as goal

pub overflow_add-count : goal.overflow_add-count
overflow_add-count c =
    let count : c.in-Some.count ≡ count_at c.args.self.now.facts c.args.key =
    ap (λ o. unwrap_or o 0) (c.in-Some.ensures ∙ c.get_late.ensures) ∙ sym (count_counting c.self.inside.counts.facts c.args.key)
    ∙ ap (λ s. count_at s.facts c.args.key) c.self.view_is in
    omega (arith, count, c.requires.few)

pub insert-requires-clause-room : goal.insert-requires-clause-room
insert-requires-clause-room c =
    let none : get c.self.inside.counts.facts c.args.key ≡ None = sym (c.in-None.ensures ∙ c.get_late.ensures) in
    let few : len c.make_way.new.counts.facts < c.self.inside.most =
    place_free c.self.inside.counts.facts c.make_way.new.counts.facts c.args.self.now c.self.inside.most c.args.key c.self.view_is none c.requires.room
    c.make_way.ensures.room in
    omega (arith, few, c.make_way.ensures.places, c.self.invariant.1)

pub invariant_of-self-in-None : goal.invariant_of-self-in-None
invariant_of-self-in-None c =
    let none : get c.self.inside.counts.facts c.args.key ≡ None = sym (c.in-None.ensures ∙ c.get_late.ensures) in
    let few : len c.make_way.new.counts.facts < c.self.inside.most =
    place_free c.self.inside.counts.facts c.make_way.new.counts.facts c.args.self.now c.self.inside.most c.args.key c.self.view_is none c.requires.room
    c.make_way.ensures.room in (
      omega (arith, few, c.make_way.ensures.places, c.self.invariant.1, c.insert.ensures.places, c.insert.ensures.room),
      omega (arith, c.make_way.ensures.places, c.self.invariant.1, c.insert.ensures.places),
    )

pub returns-in-Some-clause-each : goal.returns-in-Some-clause-each
returns-in-Some-clause-each c q =
    let m = c.self.inside.counts.facts in
    let is : Some c.in-Some.count ≡ get m c.args.key = c.in-Some.ensures ∙ c.get_late.ensures in
    each_seen m c.change.new.self.facts (λ n. n + 1) c.args.key q
    (ap (λ x. count_at x q) c.change.ensures.facts ∙ count_become m c.args.key (c.in-Some.count + 1) q (ap is_some (sym is))
    ∙ count_by m (λ n. n + 1) c.args.key (c.in-Some.count + 1) q (ap (λ o. unwrap_or o 0 + 1) is))
    ∙ ap (λ s. cond (nat_eq c.args.key q) (count_at s.facts q + 1) (count_at s.facts q)) c.self.view_is

pub returns-in-Some-clause-positive : goal.returns-in-Some-clause-positive
returns-in-Some-clause-positive c = positive_counting c.change.new.self.facts

pub returns-in-Some-clause-places : goal.returns-in-Some-clause-places
returns-in-Some-clause-places c =
    let m = c.self.inside.counts.facts in
    let few : len c.change.new.self.facts ≤ c.self.inside.most = omega (
      arith,
      ap len c.change.ensures.facts,
      len-changed_at c.args.key (λ _. c.in-Some.count + 1) m,
      c.self.invariant.0,
    ) in
    same_places m c.change.new.self.facts c.self.inside.most c.self.invariant.0 few ∙ ap places c.self.view_is

pub returns-in-None-clause-each : goal.returns-in-None-clause-each
returns-in-None-clause-each c q =
    let m = c.self.inside.counts.facts in
    let w = c.make_way.new.counts.facts in
    let none : get w c.args.key ≡ None = c.make_way.ensures.absent c.args.key (sym (c.in-None.ensures ∙ c.get_late.ensures)) in
    each_seen m c.insert.new.self.facts (λ n. n + 1) c.args.key q (ap (λ x. count_at x q) c.insert.ensures.facts ∙ count_put w c.args.key 1 q
    ∙ count_by w (λ n. n + 1) c.args.key 1 q (ap (λ o. unwrap_or o 0 + 1) (sym none))
    ∙ ap (λ n. cond (nat_eq c.args.key q) (n + 1) n) (same_counts m w q c.make_way.ensures.facts))
    ∙ ap (λ s. cond (nat_eq c.args.key q) (count_at s.facts q + 1) (count_at s.facts q)) c.self.view_is

pub returns-in-None-clause-positive : goal.returns-in-None-clause-positive
returns-in-None-clause-positive c = positive_counting c.insert.new.self.facts

pub returns-in-None-clause-places : goal.returns-in-None-clause-places
returns-in-None-clause-places c =
    same_places c.self.inside.counts.facts c.insert.new.self.facts c.self.inside.most c.self.invariant.0 (invariant_of-self-in-None c).0 ∙
    ap places c.self.view_is
