-- How a program has ended.
use Rattle.std.specs.Prelude.{ℤ, pos, negsuc, Option, Some, None}
use Rattle.std.specs.declared.process.status.ExitStatus.{ExitStatus}
use Rattle.std.specs.Process.{exit_code}
use Rattle.rk_machine.specs.declared.event.How.{How}
use Rattle.rk_machine.specs.declared.event.How.TheVariants.{Exit, Signal}

-- with a status, or without one, by a signal
abbrev pub by_code : Option ℤ → How
by_code (Some (pos status)) = Exit status
by_code (Some (negsuc n)) = Signal
by_code None = Signal

-- waitpid(2): WIFEXITED and WEXITSTATUS, or WIFSIGNALED
abbrev pub ended_as : ExitStatus → How
ended_as s = by_code (exit_code s)
