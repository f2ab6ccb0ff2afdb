use Rattle.rk_rings.proofs.Words.{◌∙◌, sym, ◌≡◌, subst, empty, AreSerials}
use Rattle.rk_rings.proofs.Links.{none_passes, serials-empty}
use Rattle.rk_rings.proofs.Turned.{by_name_empty}
use Rattle.rk_rings.proofs.row.Row.renew.Goals as goal

pub invariant_of-self : goal.invariant_of-self
invariant_of-self c =
    let none : c.retain.new.self.facts ≡ empty = c.retain.ensures.facts ∙ none_passes c.self.inside.links.facts in
    record {
      links = (c.retain.ensures.places ∙ c.self.invariant.links.0, subst AreSerials (sym none) (serials-empty _));
      by_name = by_name_empty _ _ none c.clear.ensures;
    }

pub returns : goal.returns
returns c =
    let none : c.retain.new.self.facts ≡ empty = c.retain.ensures.facts ∙ none_passes c.self.inside.links.facts in
    λ i. record { kind = c.args.wanted.kind; uid = c.args.wanted.uid; links = none i }
