use Rattle.rk_rings.proofs.Words.{◌∙◌, ap, sym, ◌≡◌, subst, get, insert, remove, None, Some, AreByName}
use Rattle.rk_rings.proofs.Turned.{kept_rival, kept_all, by_name_given, by_name_new}
use Rattle.rk_rings.proofs.row.give_way.Goals as goal

pub returns-in-Some-clause-links : goal.returns-in-Some-clause-links
returns-in-Some-clause-links c =
    let is : get c.args.by_name.now.facts c.args.name ≡ Some c.in-Some.rival =
    sym (sym c.in-Some.is ∙ c.put.ensures.old ∙ ap (λ m. get m c.args.name) c.make_way.ensures.facts) in
    c.remove.ensures.facts ∙ ap (remove c.args.links.now.facts) c.get.ensures.number
    ∙ kept_rival c.args.links.now.facts c.args.by_name.now.facts c.in-Some.rival c.args.name c.requires.index is

pub returns-in-Some-clause-index : goal.returns-in-Some-clause-index
returns-in-Some-clause-index c =
    let is : get c.args.by_name.now.facts c.args.name ≡ Some c.in-Some.rival =
    sym (sym c.in-Some.is ∙ c.put.ensures.old ∙ ap (λ m. get m c.args.name) c.make_way.ensures.facts) in
    let links : c.remove.new.self.facts ≡ remove c.args.links.now.facts c.in-Some.rival =
    c.remove.ensures.facts ∙ ap (remove c.args.links.now.facts) c.get.ensures.number in
    let by_name : c.put.new.self.facts ≡ insert c.args.by_name.now.facts c.args.name c.args.key =
    c.put.ensures.facts ∙ ap (λ m. insert m c.args.name c.args.key) c.make_way.ensures.facts in
    subst (λ m. AreByName (insert m c.args.key c.args.name) c.put.new.self.facts) (sym links)
    (subst (AreByName (insert (remove c.args.links.now.facts c.in-Some.rival) c.args.key c.args.name)) (sym by_name)
    (by_name_given c.args.links.now.facts c.args.by_name.now.facts c.in-Some.rival c.args.key c.args.name c.requires.index is c.requires.new))

pub returns-in_default-clause-links : goal.returns-in_default-clause-links
returns-in_default-clause-links c =
    kept_all c.args.links.now.facts c.args.by_name.now.facts c.args.name c.requires.index
    (sym (sym c.in_default.is ∙ c.put.ensures.old ∙ ap (λ m. get m c.args.name) c.make_way.ensures.facts))

pub returns-in_default-clause-index : goal.returns-in_default-clause-index
returns-in_default-clause-index c =
    let free : get c.args.by_name.now.facts c.args.name ≡ None =
    sym (sym c.in_default.is ∙ c.put.ensures.old ∙ ap (λ m. get m c.args.name) c.make_way.ensures.facts) in
    let by_name : c.put.new.self.facts ≡ insert c.args.by_name.now.facts c.args.name c.args.key =
    c.put.ensures.facts ∙ ap (λ m. insert m c.args.name c.args.key) c.make_way.ensures.facts in
    subst (AreByName (insert c.args.links.now.facts c.args.key c.args.name)) (sym by_name)
    (by_name_new c.args.links.now.facts c.args.by_name.now.facts c.args.key c.args.name c.requires.index free c.requires.new)
