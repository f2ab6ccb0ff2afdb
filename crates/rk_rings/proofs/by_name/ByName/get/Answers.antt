use Rattle.rk_rings.proofs.Words.{◌∙◌, ap, sym, ◌≡◌, lookup, option_copied, None, Some, nat_eq}
use Rattle.std.specs.FinMap as map
use Rattle.rk_rings.proofs.Placed.{held, get_named}
use Rattle.rk_rings.proofs.by_name.ByName.get.Goals as goal

pub returns-in_err-get : goal.returns-in_err-get
returns-in_err-get c =
    let is : lookup (nat_eq c.args.name) c.self.inside.keys.entries ≡ None = sym c.get.ensures.value ∙ ap option_copied c.in_err-get.was in
    c.from_residual.ensures ∙ sym (get_named c.self.inside.keys.entries c.args.name ∙ ap held is) ∙ ap (λ s. map.get s.facts c.args.name) c.self.view_is

pub returns : goal.returns
returns c =
    let is : lookup (nat_eq c.args.name) c.self.inside.keys.entries ≡ Some c.in_ok-get.field-0.now = sym c.get.ensures.value ∙ ap option_copied c.in_ok-get.was in
    sym (get_named c.self.inside.keys.entries c.args.name ∙ ap held is) ∙ ap (λ s. map.get s.facts c.args.name) c.self.view_is
