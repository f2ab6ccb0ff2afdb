use Rattle.rk_keys.proofs.Words.{◌∙◌, ◌≡◌, sym, ℕ, subst, false, true, Some, IfSome, has_name, Known}
use Rattle.std.specs.FinMap as map
use Rattle.rk_keys.proofs.Indexed.{none_of, some_of}
use Rattle.rk_keys.proofs.keys.Keys.name.Goals as goal

pub returns-clause-none : goal.returns-clause-none
returns-clause-none c none k =
    subst (λ (n : Known). has_name n.keys k c.args.name.now.typ c.args.name.now.description ≡ false) c.self.view_is
    (none_of c.self.inside.seed c.self.inside.facts.facts c.self.inside.numbers.facts c.self.inside.by_name.facts c.self.invariant.index c.args.name.now.typ
    c.args.name.now.description (sym c.number_of.ensures ∙ none) k)

pub returns-clause-some : goal.returns-clause-some
returns-clause-some c =
    subst (λ (n : Known). IfSome c.number_of.result (λ m. (k : ℕ) × (has_name n.keys k c.args.name.now.typ c.args.name.now.description ≡ true) ×
    (map.get n.numbers k ≡ Some m))) c.self.view_is
    (subst (λ o. IfSome o (λ m. (k : ℕ) × (has_name c.self.inside.facts.facts k c.args.name.now.typ c.args.name.now.description ≡ true) ×
    (map.get c.self.inside.numbers.facts k ≡ Some m))) (sym c.number_of.ensures)
    (some_of c.self.inside.seed c.self.inside.facts.facts c.self.inside.numbers.facts c.self.inside.by_name.facts c.self.invariant.index c.args.name.now.typ
    c.args.name.now.description))
