use Rattle.rk_daemon.proofs.Acceptings.{Leads}
use Rattle.rk_daemon.proofs.accepting.accept.Given as goal

abbrev pub invariant-loop : goal.invariant-loop
invariant-loop g l = record { leads : Leads l.until (g.D.Door.story l.fn.door) (g.D.Door.story l.door) l.last }
