use Rattle.std.proofs.Common.{inl, inr, refl, rules}
use Rattle.rk_session.proofs.standing.moved.Goals as goal

pub returns-then-eq : goal.returns-then-eq
returns-then-eq g c = inl (search rules, refl)

pub returns-in-None : goal.returns-in-None
returns-in-None g c = inr (search rules, c.open.new.caller.seat, c.in-None.ensures, c.leave.ensures.left)

pub returns-in-Some : goal.returns-in-Some
returns-in-Some g c = (c.in-Some.ensures.0, search rules, c.in-Some.ensures.1)
