use Rattle.rk_keys.proofs.Words.{◌≡◌, ℕ, subst, arith, ◌-◌, suc, is_some, Says, drawn_in_order, Drawn, HasSerials}
use Rattle.rk_keys.proofs.Drawing.{left_in_order}
use Rattle.rk_keys.proofs.serials.Serials.left.Goals as goal

pub returns-else-count-eq0 : goal.returns-else-count-eq0
returns-else-count-eq0 c =
    let some : suc (c.args.count - 1) ≡ c.args.count = omega (arith, c.if-count-eq0.false) in
    let held : Drawn = drawn_in_order c.self.inside.first c.self.inside.stride c.self.inside.count in
    rw c.is_some.ensures
    (subst (λ (d : Drawn). Says (is_some c.of_form.result) (HasSerials d c.args.count)) c.self.view_is
    (subst (λ (n : ℕ). Says (is_some c.of_form.result) (HasSerials held n)) some
    (left_in_order c.self.inside.first c.self.inside.stride c.self.inside.count (c.args.count - 1) c.saturating_add.result c.of_form.result
    c.self.invariant.0 c.self.invariant.1 c.saturating_add.ensures c.of_form.ensures)))
