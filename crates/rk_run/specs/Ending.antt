-- How a program has ended, as a status.
use Rattle.std.specs.Prelude.{ℕ, ◌+◌, ℤ, pos, negsuc, Option, Some, None}
use Rattle.std.specs.declared.process.status.ExitStatus.{ExitStatus}
use Rattle.std.specs.Process.{exit_code, exit_signal}

-- its own, or 128 and the number of a signal (sh(1)); 255 if it is neither
abbrev pub status_by : Option ℤ → Option ℤ → ℕ
status_by (Some (pos code)) signal = code
status_by (Some (negsuc n)) signal = 255
status_by None (Some (pos signal)) = 128 + signal
status_by None (Some (negsuc n)) = 255
status_by None None = 255

-- waitpid(2): WEXITSTATUS or WTERMSIG
abbrev pub status_of : ExitStatus → ℕ
status_of s = status_by (exit_code s) (exit_signal s)
