-- Launches for which no command was to be started.
use Rattle.std.proofs.Common.{refl}
use Rattle.std.specs.Prelude.{List}
use Rattle.rk_conf.specs.declared.line.Line.{Line}
use Rattle.rk_macro.specs.declared.subject.Subject.{Subject}
use Rattle.rk_devices.specs.declared.driven.Driven.{Driven}
use Rattle.rk_devices.specs.declared.driven.Driven.TheVariants.{Ended, NoPayload, NotStarted, NotMade, NoMemory, StartFailed, ReadFailed, WaitFailed}
use Rattle.rk_devices.specs.Shown.{LauncherShown}
use Rattle.rk_child.specs.Commands.{IsUnprepared, TellsWhy}
use Rattle.rk_child.specs.Driving.{FaultRose, TellsEnd, HasRun, later_of}

-- the launcher is as it was
pub unprepared_tells : (driven : Driven) (a : LauncherShown) → IsUnprepared driven → FaultRose driven a a × TellsEnd driven a a
unprepared_tells NotStarted a h = (tt, refl)
unprepared_tells (NotMade fault) a h = (tt, refl)
unprepared_tells NoMemory a h = (tt, refl)
unprepared_tells (Ended how) a h = absurd h
unprepared_tells (NoPayload fault) a h = absurd h
unprepared_tells StartFailed a h = absurd h
unprepared_tells ReadFailed a h = absurd h
unprepared_tells WaitFailed a h = absurd h

-- if one command followed another, the first one alone can tell why none was to be started
pub later_why : (conf : List Line) (s : Subject) (first second : Driven) → TellsWhy conf s first → TellsWhy conf s (later_of first second)
later_why conf s first NotStarted h = h
later_why conf s first (NotMade fault) h = h
later_why conf s first NoMemory h = h
later_why conf s first StartFailed h = h
later_why conf s first (Ended how) h = tt
later_why conf s first (NoPayload fault) h = tt
later_why conf s first ReadFailed h = tt
later_why conf s first WaitFailed h = tt

-- a command that ran was to be started
pub run_why : (conf : List Line) (s : Subject) (driven : Driven) → HasRun driven → TellsWhy conf s driven
run_why conf s NotStarted run = absurd run
run_why conf s (NotMade fault) run = absurd run
run_why conf s NoMemory run = absurd run
run_why conf s StartFailed run = absurd run
run_why conf s (Ended how) run = tt
run_why conf s (NoPayload fault) run = tt
run_why conf s ReadFailed run = tt
run_why conf s WaitFailed run = tt
