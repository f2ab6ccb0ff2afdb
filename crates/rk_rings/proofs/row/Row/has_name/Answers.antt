use Rattle.rk_rings.proofs.Words.{◌∙◌, ap, sym, false, option_map_or, is_some, has_number}
use Rattle.rk_rings.proofs.Turned.{number_known}
use Rattle.rk_rings.proofs.row.Row.has_name.Goals as goal

pub returns-in-Some : goal.returns-in-Some
returns-in-Some c =
    c.is_some.ensures ∙ ap is_some c.get.ensures ∙ number_known c.self.inside.links.facts c.self.inside.by_name.facts c.in-Some.number c.self.invariant.by_name
    ∙ ap (λ r. has_number r c.in-Some.number) c.self.view_is ∙ sym (ap (λ o. option_map_or (has_number c.args.self.now) o false) c.in-Some.is)
