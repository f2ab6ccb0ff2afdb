use Rattle.rk_rings.proofs.Words.{◌∙◌, ap, sym, ◌≡◌, subst, get, remove, None, Some, AreByName, AreSerials}
use Rattle.rk_rings.proofs.Links.{serials-remove}
use Rattle.rk_rings.proofs.Turned.{by_name_out, nothing_out}
use Rattle.rk_rings.proofs.row.Row.unlink.Goals as goal

pub returns-in_default : goal.returns-in_default
returns-in_default c =
    let none : get c.self.inside.links.facts c.args.key ≡ None =
    ap (get c.self.inside.links.facts) (sym c.get.ensures.number) ∙ sym c.get-2.ensures ∙ sym c.copied.ensures ∙ c.in_default.is in
    let same : c.args.self.now.links ≡ remove c.args.self.now.links c.args.key =
    nothing_out c.args.self.now.links c.args.key (ap (λ r. get r.links c.args.key) (sym c.self.view_is) ∙ none) in
    λ i. record c.args.self.now { links = same i }

pub invariant_of-self : goal.invariant_of-self
invariant_of-self c =
    let m = c.self.inside.links.facts in
    let is : get m c.args.key ≡ Some c.in-Some.name = ap (get m) (sym c.get.ensures.number) ∙ sym (c.in-Some.ensures ∙ c.get-2.ensures) in
    let links : c.remove.new.self.facts ≡ remove m c.args.key = c.remove.ensures.facts ∙ ap (remove m) c.get-3.ensures.number in
    record {
      links = (c.remove.ensures.places ∙ c.self.invariant.links.0, subst AreSerials (sym c.remove.ensures.facts) (serials-remove _ _ c.self.invariant.links.1));
      by_name = subst (λ x. AreByName x c.remove-2.new.self.facts) (sym links) (subst (AreByName (remove m c.args.key)) (sym c.remove-2.ensures.facts)
          (by_name_out m c.self.inside.by_name.facts c.args.key c.in-Some.name c.self.invariant.by_name is));
    }
