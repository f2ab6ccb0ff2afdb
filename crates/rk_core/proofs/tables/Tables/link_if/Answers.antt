use Rattle.rk_core.proofs.Words.{ℕ, sym, ap, ◌∙◌, Option, tidied, full_refusal, linked_in}
use Rattle.rk_core.proofs.Vanishing.OneByOne.{all_stay}
use Rattle.rk_core.proofs.tables.Tables.link_if.Goals as goal

pub returns-in-None : goal.returns-in-None
returns-in-None c = (
  ap (λ (o : Option ℕ). full_refusal c.args.self.now o c.args.key) c.in-None.is,
  sym (all_stay c.args.self.now c.requires.tidy) ∙ ap (λ (o : Option ℕ). tidied (linked_in o c.args.key c.args.self.now)) (sym c.in-None.is),
)
