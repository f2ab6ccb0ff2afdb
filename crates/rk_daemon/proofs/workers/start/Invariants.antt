use Rattle.std.proofs.Common.{◌≡◌, vec_len}
use Rattle.rk_daemon.proofs.workers.start.Given as goal

-- there are as many workers as were started
abbrev pub invariant-loop : goal.invariant-loop
invariant-loop g l = vec_len l.all ≡ l.counter
