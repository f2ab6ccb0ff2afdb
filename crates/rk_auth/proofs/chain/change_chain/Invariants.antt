use Rattle.rk_auth.proofs.Words.{◌≡◌, in_standing}
use Rattle.rk_auth.proofs.Rounds.{IsRound}
use Rattle.rk_auth.proofs.chain.change_chain.Given as goal

-- what is left to change leads to what all of it does
abbrev pub invariant-loop-step : goal.invariant-loop-step
invariant-loop-step g l =
    IsRound (in_standing (g.C.ChangeOnce.changed l.change)) l.initial.slots.facts l.slots.facts l.home l.at l.step l.step-end
    × (l.slots.room ≡ l.initial.slots.room)
