-- When a maker of keys is refused.
use Rattle.rk_keys.proofs.Words.{◌∙◌, ◌≡◌, sym, ℕ, subst, false, Bool, inl, inr, both_ways, Known, has_all_keys, IsRefused, IsNext}
use Rattle.std.proofs.Common.{◌↔◌, Result, Err}
use Rattle.rk_keys.specs.declared.fault.KeyFault.{KeyFault}
use Rattle.rk_keys.specs.declared.fault.KeyFault.TheVariants as fault
use Rattle.rk_keys.proofs.Drawn.{IsNext-HasSerials}

-- a user with fewer keys is not, while there is a next serial
not_refused : (inside known : Known) (owner k : ℕ) (full : Bool) → inside ≡ known → full ≡ has_all_keys known.keys owner → full ≡ false
    → IsNext inside.serials k → ¬ (IsRefused known owner)
not_refused inside known owner k full same is not_full next refused = elim refused [
  | inl all ↦ both_ways _ (sym is ∙ not_full) all
  | inr none ↦ none (IsNext-HasSerials known.serials k (subst (λ (n : Known). IsNext n.serials k) same next))
]

-- what comes of it then is no quota, and no quota was due
pub no_quota : (inside known : Known) (owner k : ℕ) (full : Bool) (result : Result ℕ KeyFault) → ¬ (result ≡ Err fault.Quota) → inside ≡ known
    → full ≡ has_all_keys known.keys owner → full ≡ false → IsNext inside.serials k → (result ≡ Err fault.Quota) ↔ IsRefused known owner
no_quota inside known owner k full result other same is not_full next = (
  λ e. absurd (other e),
  λ refused. absurd (not_refused inside known owner k full same is not_full next refused),
)
