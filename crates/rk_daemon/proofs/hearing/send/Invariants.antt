use Rattle.rk_daemon.specs.Lull.{fresh}
use Rattle.rk_daemon.proofs.Hearings.{Leaves}
use Rattle.rk_daemon.proofs.hearing.send.Given as goal

abbrev pub invariant-loop : goal.invariant-loop
invariant-loop g l = record { leaves : Leaves l.fn.bytes (fresh l.fn.limit) (g.L.Line.story l.fn.line) (g.L.Line.story l.line) l.rest l.lull }
