use Rattle.rk_auth.proofs.Words.{◌≡◌}
use Rattle.rk_auth.proofs.Rounds.{IsLoosened}
use Rattle.rk_auth.proofs.chain.loosen.Given as goal

-- who is still in the chain is not more than the steps that are left
abbrev pub invariant-loop-step : goal.invariant-loop-step
invariant-loop-step l = IsLoosened l.initial.slots.facts l.slots.facts l.home l.other l.step l.step-end × (l.slots.room ≡ l.initial.slots.room)
