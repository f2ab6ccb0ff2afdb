use Rattle.rk_auth.proofs.Words.{◌≡◌, ◌-◌, leads_within}
use Rattle.rk_auth.proofs.circles.leads.Given as goal

-- what is left of the walk finds what the whole does
abbrev pub invariant-loop-step : goal.invariant-loop-step
invariant-loop-step l = leads_within l.seats.sessions.constructions (l.bound - l.step) l.at l.own ≡ leads_within l.seats.sessions.constructions l.bound l.initial.at l.own
