use Rattle.rk_rings.proofs.Words.{◌∙◌, ap, sym, ◌≡◌, lookup, option_copied_mut, None, Some, nat_eq, is_some, named}
use Rattle.std.specs.FinMap as map
use Rattle.rk_rings.proofs.Placed.{named_put, named_without}
use Rattle.rk_rings.proofs.by_name.ByName.remove.Goals as goal

pub returns-in_default : goal.returns-in_default
returns-in_default c =
    let is : lookup (nat_eq c.args.name) c.self.inside.keys.entries ≡ None = sym c.get_mut.ensures.value ∙ ap option_copied_mut c.in_default.is in
    record {
      facts = ap (λ m. named m.entries) c.get_mut.follows.holds-at-none ∙ named_without c.self.inside.keys.entries c.args.name is
          ∙ ap (λ s. map.remove s.facts c.args.name) c.self.view_is;
    }

pub returns : goal.returns
returns c =
    let is : lookup (nat_eq c.args.name) c.self.inside.keys.entries ≡ Some c.in-Some.place.now =
    sym c.get_mut.ensures.value ∙ ap option_copied_mut c.in-Some.is in
    record {
      facts = named_put c.self.inside.keys.entries (c.get_mut.follows.lender None).entries c.args.name None ((c.get_mut.follows.holds None).3 (ap is_some is)).0
          ∙ ap (λ s. map.remove s.facts c.args.name) c.self.view_is;
    }
