use Rattle.rk_rings.proofs.Words.{◌∙◌, ap, sym, ◌≡◌, subst, ℕ, false, true, remove, MatchOption, AreCounted, AreSerials, Rings, is_his}
use Rattle.rk_rings.proofs.Links.{serials-remove}
use Rattle.rk_rings.proofs.Changed.{rows-remove}
use Rattle.rk_rings.proofs.Counted.{counted_dropped, dropped}
use Rattle.rk_rings.proofs.UserRings.{dropped_others}
use Rattle.rk_rings.proofs.rings.Rings.drop_ring.Goals as goal

pub renew_user-requires-clause-serials : goal.renew_user-requires-clause-serials
renew_user-requires-clause-serials c =
    subst AreSerials (sym c.take-row.ensures.facts) (serials-remove c.self.inside.rows.facts c.get.result c.self.invariant.rows.1)

pub renew_user-requires-clause-others : goal.renew_user-requires-clause-others
renew_user-requires-clause-others c =
    let m = c.self.inside.rows.facts in
    dropped_others m c.take-row.new.self.facts c.self.inside.users.facts c.args.ring c.user_of-user.result
    (c.take-row.ensures.facts ∙ ap (remove m) c.get.ensures.number)
    (subst (λ (n : Rings). MatchOption c.user_of-user.result ((uid : ℕ) → is_his n uid c.args.ring ≡ false) (λ uid. is_his n uid c.args.ring ≡ true))
    (sym c.self.view_is) c.user_of-user.ensures)
    c.self.invariant.users

pub invariant_of-self : goal.invariant_of-self
invariant_of-self c =
    let m = c.self.inside.rows.facts in
    let gone : c.take-row.new.self.facts ≡ remove m c.args.ring = c.take-row.ensures.facts ∙ ap (remove m) c.get.ensures.number in
    record {
      rows = rows-remove _ _ _ c.take-row.ensures.facts c.self.invariant.rows;
      users = c.renew_user.ensures;
      counted = subst (λ n. AreCounted n c.self.inside.counts) (sym gone) (counted_dropped c.args.self.now m c.self.inside.counts c.args.ring (c.self.view_is ∙
          c.empty.ensures) c.self.invariant.counted);
    }

pub returns-clause-ok : goal.returns-clause-ok
returns-clause-ok c =
    c.take-row.ensures.facts ∙ ap (remove c.self.inside.rows.facts) c.get.ensures.number ∙ ap (λ m. remove m c.args.ring) (c.self.view_is ∙ c.empty.ensures) ∙
    dropped c.args.self.now c.args.ring
