use Rattle.std.proofs.Common.{◌≤◌}
use Rattle.rk_devices.specs.Counts.{most}
use Rattle.rk_daemon.proofs.workers.serve_clients.Given as goal

abbrev pub invariant-loop-client : goal.invariant-loop-client
invariant-loop-client g l =
    (goal.iterator-loop-client g).can_next l.client-iterator ×
    (goal.iterator-loop-client g).is_finite l.client-iterator ×
    (l.crew.launcher.failed ≤ most)
