use Rattle.rk_keys.proofs.Words.{◌∙◌, ap, refl, sym, subst, ◌<◌, ◌≤◌, ◌^◌, Some, None, len-first_of_form, Drawn, IsNext, with_drawn, HasSerials, Extends}
use Rattle.std.specs.FinSet as set
use Rattle.rk_keys.proofs.Drawing.{next_in_order, drawn_next}
use Rattle.rk_keys.proofs.Drawn.{IsNext-IsFresh, HasSerials-with_drawn, HasSerials-fewer, Extends-with_drawn}
use Rattle.rk_keys.proofs.serials.Serials.draw.Goals as goal

pub returns-in_err-next-clause-cases : goal.returns-in_err-next-clause-cases
returns-in_err-next-clause-cases c =
    rw c.from_residual.ensures (
      subst (λ (d : Drawn). ¬ (HasSerials d 1)) c.self.view_is
          (next_in_order c.self.inside.first c.self.inside.stride c.self.inside.count None c.self.invariant.0 c.self.invariant.1 (sym c.in_err-next.was ∙
          c.of_form.ensures)),
      refl,
    )

pub returns-in_err-next-clause-left : goal.returns-in_err-next-clause-left
returns-in_err-next-clause-left c = λ n h. HasSerials-fewer c.args.self.now n h

pub returns-clause-cases : goal.returns-clause-cases
returns-clause-cases c =
    let next = next_in_order c.self.inside.first c.self.inside.stride c.self.inside.count (Some c.in_ok-next.next) c.self.invariant.0 c.self.invariant.1
    (sym c.in_ok-next.was ∙ c.of_form.ensures) in (
      subst (λ (d : Drawn). IsNext d c.in_ok-next.next) c.self.view_is next.0,
      drawn_next c.self.inside.first c.self.inside.stride c.self.inside.count c.in_ok-next.next next.1 ∙ ap (with_drawn c.in_ok-next.next) c.self.view_is,
    )

pub returns-clause-fresh : goal.returns-clause-fresh
returns-clause-fresh c =
    IsNext-IsFresh c.args.self.now c.in_ok-next.next (subst (λ (d : Drawn). 1 ≤ d.first) c.self.view_is c.self.invariant.0) (returns-clause-cases c).0

pub returns-clause-left : goal.returns-clause-left
returns-clause-left c =
    let drawn = returns-clause-cases c in
    λ n h. subst (λ (d : Drawn). HasSerials d n) (sym drawn.1) (HasSerials-with_drawn c.args.self.now c.in_ok-next.next n drawn.0 h)

pub returns-clause-extends : goal.returns-clause-extends
returns-clause-extends c =
    let drawn = returns-clause-cases c in
    subst (Extends c.args.self.now) (sym drawn.1) (Extends-with_drawn c.args.self.now c.in_ok-next.next)

pub returns-clause-few : goal.returns-clause-few
returns-clause-few c =
    subst (λ (d : Drawn). set.len d.used < 2 ^ 31) c.self.view_is
    (subst (λ n. n < 2 ^ 31) (sym (len-first_of_form c.self.inside.first c.self.inside.stride c.self.inside.count c.self.invariant.1)) c.self.invariant.2)
