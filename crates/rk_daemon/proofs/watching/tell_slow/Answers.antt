use Rattle.std.proofs.Common.{rules, ◌≡◌}
use Rattle.rk_daemon.proofs.Lookings.{told_none, told_slow}
use Rattle.rk_daemon.proofs.watching.tell_slow.Goals as goal

pub returns-then-seconds-gt0 : goal.returns-then-seconds-gt0
returns-then-seconds-gt0 g c = told_slow _ _ _ _ _ c.if-seconds-gt0.true c.from.ensures c.tell_slow.ensures

pub returns-else-seconds-gt0 : goal.returns-else-seconds-gt0
returns-else-seconds-gt0 g c = let none : c.args.seconds ≡ 0 = search rules in told_none _ _ _ none
