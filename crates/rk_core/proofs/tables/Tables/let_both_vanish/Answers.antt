use Rattle.rk_core.proofs.Words.{ℕ, false, ap, ◌∙◌, subst, ◌||◌, Option, nat_eq, option_map_or, StayBut, vanished_at}
use Rattle.rk_core.proofs.Vanishing.OneByOne.{one_settles, two_settle}
use Rattle.rk_core.proofs.tables.Tables.let_both_vanish.Goals as goal

pub returns-in-Some : goal.returns-in-Some
returns-in-Some c =
    c.let_vanish-in-Some.ensures ∙ ap (vanished_at c.args.key) c.let_vanish.ensures
    ∙ two_settle c.args.self.now c.in-Some.rival c.args.key (subst
    (λ (o : Option ℕ). StayBut (λ j. option_map_or (λ r. nat_eq j r) o false || nat_eq j c.args.key) c.args.self.now) c.in-Some.is c.requires)

pub returns-in-None : goal.returns-in-None
returns-in-None c =
    c.let_vanish-in-None.ensures
    ∙ one_settles c.args.self.now c.args.key (subst (λ (o : Option ℕ). StayBut
    (λ j. option_map_or (λ r. nat_eq j r) o false || nat_eq j c.args.key) c.args.self.now) c.in-None.is c.requires)
