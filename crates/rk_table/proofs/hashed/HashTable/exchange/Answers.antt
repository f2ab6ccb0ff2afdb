use Rattle.rk_table.proofs.Words.{◌∙◌, ap, sym, ◌≡◌, subst, lookup, option_copied_mut, Some, None, nat_eq, is_some, option_map, changed_at}
use Rattle.std.specs.FinMap as map
use Rattle.rk_table.proofs.LookedUp.{LooksUp, get_hashed, changed_hashed, not_changed_hashed}
use Rattle.rk_table.proofs.hashed.HashTable.exchange.Goals as goal

pub returns-in_default-clause-answer : goal.returns-in_default-clause-answer
returns-in_default-clause-answer g c =
    let is : lookup (nat_eq c.args.key) c.self.inside.entries.entries ≡ None = sym c.get_mut.ensures.value ∙ ap option_copied_mut c.in_default.is in
    ap (option_map (g.E.Exchange.answer c.args.exchange))
    (sym is ∙ sym (get_hashed c.self.inside.entries.entries c.args.key) ∙ ap (λ s. map.get s.facts c.args.key) c.self.view_is)

pub returns-in_default-clause-facts : goal.returns-in_default-clause-facts
returns-in_default-clause-facts g c =
    let f = g.E.Exchange.changed c.args.exchange in
    let is : lookup (nat_eq c.args.key) c.self.inside.entries.entries ≡ None = sym c.get_mut.ensures.value ∙ ap option_copied_mut c.in_default.is in
    ap (λ m. map.from_entries m.entries) c.get_mut.follows.holds-at-none
    ∙ not_changed_hashed f c.self.inside.entries.entries c.args.key is ∙ ap (λ s. changed_at c.args.key f s.facts) c.self.view_is

pub returns-clause-answer : goal.returns-clause-answer
returns-clause-answer g c =
    let is : lookup (nat_eq c.args.key) c.self.inside.entries.entries ≡ Some c.in-Some.held.now = sym c.get_mut.ensures.value ∙ ap option_copied_mut c.in-Some.is in
    ap Some c.exchange.ensures.answer
    ∙ ap (option_map (g.E.Exchange.answer c.args.exchange))
    (sym is ∙ sym (get_hashed c.self.inside.entries.entries c.args.key) ∙ ap (λ s. map.get s.facts c.args.key) c.self.view_is)

pub returns-clause-facts : goal.returns-clause-facts
returns-clause-facts g c =
    let f = g.E.Exchange.changed c.args.exchange in
    let is : lookup (nat_eq c.args.key) c.self.inside.entries.entries ≡ Some c.in-Some.held.now = sym c.get_mut.ensures.value ∙ ap option_copied_mut c.in-Some.is in
    let old = c.self.inside.entries.entries in
    let new = (c.get_mut.follows.lender c.exchange.new.value).entries in
    changed_hashed f old new c.args.key c.in-Some.held.now is
    (subst (λ v. LooksUp c.args.key (Some v) old new) c.exchange.ensures.changed ((c.get_mut.follows.holds c.exchange.new.value).3 (ap is_some is)).0)
    ∙ ap (λ s. changed_at c.args.key f s.facts) c.self.view_is
