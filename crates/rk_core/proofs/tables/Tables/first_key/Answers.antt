use Rattle.rk_core.proofs.Words.{◌≡◌, ℕ, Bool, true, false, ap, sym, ◌∙◌, Option, Some, None, MatchOption, is_linked, holds, is_linked-rings_seen, World}
use Rattle.rk_core.proofs.tables.Tables.first_key.Goals as goal

-- what holds of one test holds of one that answers alike
alike : (p q : ℕ → Bool) (o : Option ℕ) → ((k : ℕ) → q k ≡ p k) → MatchOption o ((k : ℕ) → p k ≡ false) (λ k. p k ≡ true)
    → MatchOption o ((k : ℕ) → q k ≡ false) (λ k. q k ≡ true)
alike p q None same h = λ k. same k ∙ h k
alike p q (Some k) same h = same k ∙ h

pub returns : goal.returns
returns c =
    alike (holds c.self.inside.rings c.args.ring) (is_linked c.args.self.now.rings c.args.ring) c.first_key.result
    (λ k. sym (ap (λ (w : World). is_linked w.rings c.args.ring k) c.self.view_is) ∙ is_linked-rings_seen c.self.inside.rings c.args.ring k) c.first_key.ensures
