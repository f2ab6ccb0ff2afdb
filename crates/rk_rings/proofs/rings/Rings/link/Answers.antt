use Rattle.rk_rings.proofs.Words.{◌∙◌, ap, sym, ◌≡◌, subst, arith, cond, ◌≤◌, false, ◌+◌, get, contains_key, option_map_or, nat_eq, count_at, changed_at}
use Rattle.rk_rings.proofs.Words.{AreCounted, linked_in_room, Numbered, true, refl, holds}
use Rattle.rk_rings.proofs.Named.{once_linked}
use Rattle.rk_rings.proofs.Changed.{rows-changed_at, match_found}
use Rattle.rk_rings.proofs.UserRings.{users_changed, user_linked}
use Rattle.rk_rings.proofs.Counted.{Takes, linked_there, room_linked, few_enough, counted_linked}
use Rattle.rk_rings.proofs.rings.Rings.link.Goals as goal

pub returns-then-holds-clause-ok : goal.returns-then-holds-clause-ok
returns-then-holds-clause-ok c =
    linked_there c.args.self.now c.args.ring c.args.key c.args.name
    (ap (λ o. option_map_or (λ r. contains_key r.links c.args.key) o false) (sym c.in-Some.ensures.row) ∙ sym c.holds.ensures ∙ c.if-holds.true)

pub one_more-requires-clause-room : goal.one_more-requires-clause-room
one_more-requires-clause-room c none =
    let m = c.self.inside.rows.facts in
    let t : Takes m c.args.ring c.args.key c.args.name = (
      c.in-Some.row.now,
      ap (λ n. get n c.args.ring) c.self.view_is ∙ sym c.in-Some.ensures.row,
      sym c.holds.ensures ∙ c.if-holds.false,
      sym c.is_full.ensures ∙ c.if-is_full.false,
    ) in
    room_linked m c.self.inside.counts c.count_gone.new.counts c.args.ring c.args.key c.args.name c.find-rival.result c.self.invariant.counted t
    (match_found m c.args.ring c.args.name t.0 c.find-rival.result t.1 c.in-Some.ensures.once c.find-rival.ensures)
    c.count_gone.ensures.each (c.count_gone.ensures.positive c.self.invariant.counted.positive) c.count_gone.ensures.places
    (ap (count_at c.count_gone.new.counts.facts) (sym c.get-2.ensures.number) ∙ none)

pub one_more-requires-clause-few : goal.one_more-requires-clause-few
one_more-requires-clause-few c =
    let le : count_at c.count_gone.new.counts.facts c.get-2.result ≤ count_at c.self.inside.counts.facts c.get-2.result = omega (
      arith,
      c.count_gone.ensures.each c.get-2.result,
    ) in
    few_enough c.self.inside.rows.facts c.self.inside.counts c.get-2.result (count_at c.count_gone.new.counts.facts c.get-2.result) c.self.invariant.counted
    c.self.invariant.rows.0 le

pub invariant_of-self : goal.invariant_of-self
invariant_of-self c =
    let m = c.self.inside.rows.facts in
    let mid = c.count_gone.new.counts in
    let t : Takes m c.args.ring c.args.key c.args.name = (
      c.in-Some.row.now,
      ap (λ n. get n c.args.ring) c.self.view_is ∙ sym c.in-Some.ensures.row,
      sym c.holds.ensures ∙ c.if-holds.false,
      sym c.is_full.ensures ∙ c.if-is_full.false,
    ) in
    let put : c.change.new.self.facts ≡ changed_at c.args.ring (linked_in_room c.args.key c.args.name) m =
    c.change.ensures.facts ∙ ap (λ r. changed_at r (linked_in_room c.args.key c.args.name) m) c.get.ensures.number in
    record {
      rows = rows-changed_at _ _ _ _ c.change.ensures.facts (once_linked c.args.key c.args.name) c.self.invariant.rows;
      users = users_changed _ _ _ _ _ c.change.ensures.facts (user_linked c.args.key c.args.name) c.self.invariant.users;
      counted = subst (λ n. AreCounted n c.one_more.new.self) (sym put)
          (counted_linked m c.self.inside.counts mid c.one_more.new.self c.args.ring c.args.key c.args.name c.find-rival.result c.self.invariant.counted t
          (match_found m c.args.ring c.args.name t.0 c.find-rival.result t.1 c.in-Some.ensures.once c.find-rival.ensures)
          c.count_gone.ensures.each c.count_gone.ensures.places
          (λ q. c.one_more.ensures.each q ∙ ap (λ k. cond (nat_eq k q) (count_at mid.facts q + 1) (count_at mid.facts q)) c.get-2.ensures.number)
          c.one_more.ensures.positive c.one_more.ensures.places);
    }

pub returns-then-holds-clause-rival : goal.returns-then-holds-clause-rival
returns-then-holds-clause-rival c =
    let held : holds c.args.self.now c.args.ring c.args.key ≡ true =
    ap (λ o. option_map_or (λ (r : Numbered). contains_key r.links c.args.key) o false) (sym c.in-Some.ensures.row) ∙ sym c.holds.ensures ∙ c.if-holds.true in
    rw held refl

pub returns-clause-rival : goal.returns-clause-rival
returns-clause-rival c =
    let held : holds c.args.self.now c.args.ring c.args.key ≡ false =
    ap (λ o. option_map_or (λ (r : Numbered). contains_key r.links c.args.key) o false) (sym c.in-Some.ensures.row) ∙ sym c.holds.ensures ∙ c.if-holds.false in
    rw held (match_found c.args.self.now c.args.ring c.args.name c.in-Some.row.now c.find-rival.result (sym c.in-Some.ensures.row) c.in-Some.ensures.once
    c.find-rival.ensures)
