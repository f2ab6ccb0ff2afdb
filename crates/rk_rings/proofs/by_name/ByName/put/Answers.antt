use Rattle.rk_rings.proofs.Words.{spare, index_map_len, ◌∙◌, ap, sym, ◌≡◌, subst, arith, ◌≤◌, ◌+◌, lookup, option_copied_mut, None, Some, nat_eq, is_some}
use Rattle.rk_rings.proofs.Words.{named}
use Rattle.std.specs.FinMap as map
use Rattle.rk_rings.proofs.Placed.{held, get_named, named_put}
use Rattle.rk_rings.proofs.by_name.ByName.put.Goals as goal

pub invariant_of-self-in-None : goal.invariant_of-self-in-None
invariant_of-self-in-None c =
    let is : lookup (nat_eq c.args.name) c.self.inside.keys.entries ≡ None = sym c.get_mut.ensures.value ∙ ap option_copied_mut c.in-None.is in
    let same = c.get_mut.follows.holds-at-none in
    let kept = c.add.ensures.places (ap (λ m. lookup (nat_eq c.args.name) m.entries) same ∙ is) in
    omega (arith, c.self.invariant, subst (λ m. index_map_len m + spare m ≤ index_map_len c.add.new.keys + spare c.add.new.keys) same kept)

pub returns-in-Some-clause-old : goal.returns-in-Some-clause-old
returns-in-Some-clause-old c =
    let is : lookup (nat_eq c.args.name) c.self.inside.keys.entries ≡ Some c.in-Some.place.now =
    sym c.get_mut.ensures.value ∙ ap option_copied_mut c.in-Some.is in
    c.replace.ensures.value ∙ sym (get_named c.self.inside.keys.entries c.args.name ∙ ap held is) ∙ ap (λ s. map.get s.facts c.args.name) c.self.view_is

pub returns-in-Some-clause-facts : goal.returns-in-Some-clause-facts
returns-in-Some-clause-facts c =
    let is : lookup (nat_eq c.args.name) c.self.inside.keys.entries ≡ Some c.in-Some.place.now =
    sym c.get_mut.ensures.value ∙ ap option_copied_mut c.in-Some.is in
    ap (λ w. named (c.get_mut.follows.lender w).entries) c.replace.ensures.after
    ∙ named_put c.self.inside.keys.entries (c.get_mut.follows.lender (Some c.args.key)).entries c.args.name (Some c.args.key)
    ((c.get_mut.follows.holds (Some c.args.key)).3 (ap is_some is)).0 ∙ ap (λ s. map.insert s.facts c.args.name c.args.key) c.self.view_is

pub returns-in-None-clause-old : goal.returns-in-None-clause-old
returns-in-None-clause-old c =
    let is : lookup (nat_eq c.args.name) c.self.inside.keys.entries ≡ None = sym c.get_mut.ensures.value ∙ ap option_copied_mut c.in-None.is in
    sym (get_named c.self.inside.keys.entries c.args.name ∙ ap held is) ∙ ap (λ s. map.get s.facts c.args.name) c.self.view_is
