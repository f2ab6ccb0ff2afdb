-- What is done of a program that is run, and its status.
use Rattle.std.specs.Prelude.{◌≡◌, ℕ, List, Option, Result, Ok, Err}
use Rattle.rk_run.specs.declared.fault.RunFault.{RunFault}
use Rattle.rk_run.specs.declared.fault.RunFault.TheVariants as fault
use Rattle.rk_run.specs.declared.wanted.Wanted.{Wanted}
use Rattle.rk_run.specs.Runs.{HasRun}
use Rattle.rk_run.specs.Story.{Event}
use Rattle.rk_run.specs.Words.{Said, said_by}

-- 127 for a program that is not there, 126 for one that can't be started (sh(1)), and else 1
abbrev pub told_fault : RunFault → ℕ
told_fault fault.NotFound = 127
told_fault fault.Unstartable = 126
told_fault fault.Socket = 1
told_fault (fault.Refused e) = 1
told_fault fault.File = 1
told_fault fault.Unknown = 1
told_fault fault.NoMemory = 1

-- the program's own status, or that of the fault
abbrev pub told : Result ℕ RunFault → ℕ
told (Ok status) = status
told (Err e) = told_fault e

-- the program that is wanted was run so, and this is its status
abbrev pub RunsTo : Wanted → Option (List Event) → Option (List Event) → ℕ → Type 0
RunsTo w before after status = (r : Result ℕ RunFault) × HasRun (said_by w) before after r × (status ≡ told r)

-- the same, of what words say
abbrev pub RunsAs : Said → Option (List Event) → Option (List Event) → ℕ → Type 0
RunsAs said before after status = (w : Wanted) × (said_by w ≡ said) × RunsTo w before after status
