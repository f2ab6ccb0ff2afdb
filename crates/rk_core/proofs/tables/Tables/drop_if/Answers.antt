use Rattle.rk_core.proofs.Words.{ℕ, false, sym, ap, ◌∙◌, subst, Option, tidied, StayBut, without_ring, without_if}
use Rattle.rk_core.proofs.Vanishing.OneByOne.{all_stay}
use Rattle.rk_core.proofs.Vanishing.ClearedRing.{tidied_stay}
use Rattle.rk_core.proofs.tables.Tables.drop_if.Goals as goal

pub returns-in-Some-clause-tidy : goal.returns-in-Some-clause-tidy
returns-in-Some-clause-tidy c = subst (StayBut (λ j. false)) (sym c.drop_ring.ensures) (tidied_stay (without_ring c.in-Some.ring c.args.self.now))

pub returns-in_default-clause-new : goal.returns-in_default-clause-new
returns-in_default-clause-new c = sym (all_stay c.args.self.now c.requires) ∙ ap (λ (o : Option ℕ). tidied (without_if o c.args.self.now)) (sym c.in_default.is)
