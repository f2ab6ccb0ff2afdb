use Rattle.rk_core.proofs.Words.{◌≡◌, false, sym, ap, ◌∙◌, subst, Known, has_link, is_held, has_link-rings_seen, World, NumbersAgree}
use Rattle.rk_core.proofs.LinksAndNames.NumbersKept.{kept_forget}
use Rattle.rk_core.proofs.tables.Tables.let_vanish.Goals as goal

pub invariant_of-self : goal.invariant_of-self
invariant_of-self c =
    let free : is_held c.self.inside.rings c.args.key ≡ false =
    sym (has_link-rings_seen c.self.inside.rings c.args.key) ∙ ap (λ (w : World). has_link w.rings c.args.key) c.self.view_is ∙ sym c.has_link.ensures
    ∙ c.if-not-has_link.true in
    subst (λ (known : Known). NumbersAgree known c.self.inside.rings) (sym c.forget.ensures)
    (kept_forget c.self.inside.keys c.self.inside.rings c.args.key free c.self.invariant)
