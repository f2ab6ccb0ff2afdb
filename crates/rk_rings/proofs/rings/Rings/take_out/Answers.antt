use Rattle.rk_rings.proofs.Words.{◌∙◌, ap, sym, ◌≡◌, subst, cond, ◌-◌, nat_eq, count_at, changed_at, AreCounted, unlinked, holds}
use Rattle.rk_rings.proofs.Named.{once_unlinked}
use Rattle.rk_rings.proofs.Changed.{rows-changed_at}
use Rattle.rk_rings.proofs.UserRings.{users_changed, user_unlinked}
use Rattle.rk_rings.proofs.Counted.{counted_unlinked}
use Rattle.rk_rings.proofs.rings.Rings.take_out.Goals as goal

pub invariant_of-self : goal.invariant_of-self
invariant_of-self c =
    let m = c.self.inside.rows.facts in
    let old = c.self.inside.counts in
    let put : c.change.new.self.facts ≡ changed_at c.args.ring (unlinked c.args.key) m = c.change.ensures.facts ∙
    ap (λ r. changed_at r (unlinked c.args.key) m) c.get.ensures.number in
    record {
      rows = rows-changed_at _ _ _ _ c.change.ensures.facts (once_unlinked c.args.key) c.self.invariant.rows;
      users = users_changed _ _ _ _ _ c.change.ensures.facts (user_unlinked c.args.key) c.self.invariant.users;
      counted = subst (λ n. AreCounted n c.one_less.new.self) (sym put)
          (counted_unlinked m old c.one_less.new.self c.args.ring c.args.key c.self.invariant.counted (ap (λ n. holds n c.args.ring c.args.key) c.self.view_is ∙
          c.requires) (λ q. c.one_less.ensures.each q ∙ ap (λ k. cond (nat_eq k q) (count_at old.facts q - 1) (count_at old.facts q)) c.get-2.ensures.number)
          c.one_less.ensures.positive c.one_less.ensures.places);
    }
