-- How a launch is brought to its end.
use Rattle.std.specs.Prelude.{ℕ, ◌≡◌, ◌==◌, ◌≤◌, ◌⊎◌, ◌+◌, ◌-◌, max, List, [], ◌∷◌, ◌++◌, true, false, Option, Some, None, Result, Ok, Err, if◌then◌else◌}
use Rattle.rk_conf.specs.declared.line.Line.{Line}
use Rattle.rk_macro.specs.declared.command.Command.{Command}
use Rattle.rk_macro.specs.declared.subject.Op.TheVariants.{Negate}
use Rattle.rk_macro.specs.declared.subject.Subject.{Subject}
use Rattle.rk_machine.specs.declared.event.How.TheVariants.{Exit}
use Rattle.rk_devices.specs.declared.output.OutputFault.{OutputFault}
use Rattle.rk_devices.specs.declared.reading.ReadFault.{ReadFault}
use Rattle.rk_devices.specs.Counts.{most, Rose}
use Rattle.rk_devices.specs.Shown.{ChildShown, LauncherShown, Tried, and_then}
use Rattle.rk_devices.specs.declared.driven.Driven.{Driven}
use Rattle.rk_devices.specs.declared.driven.Driven.TheVariants.{Ended, NoPayload, NotStarted, NotMade, NoMemory, StartFailed, ReadFailed, WaitFailed}
use Rattle.rk_child.specs.Commands.{IsCommandFor}

-- what was to be started while so many children were out, and what their handlers' own starts are while one more is, and so on: each command is that of the
-- line that is chosen for some subject
pub data AreStarts (conf : List Line) : ℕ → List Tried → Type 0 where
  no_start : (out : ℕ) → AreStarts conf out []
  a_start : (out : ℕ) (subject : Subject) (command : Command) (nested later : List Tried) → IsCommandFor conf subject command → AreStarts conf (out + 1) nested
      → AreStarts conf out later → AreStarts conf out (record { out = out; command = command } ∷ (nested ++ later))

-- so commands were to be started while as many children were out as before
abbrev pub TriesMore : List Line → LauncherShown → LauncherShown → Type 0
TriesMore conf old new = (tried : List Tried) × (new.tried ≡ and_then old.tried tried) × AreStarts conf old.out tried

-- what was done with a launcher in the run of a launch of this depth: its counts did not fall, no child was read more than 1,048,576 times, none was waited for
-- while its input was open, each came back, and no more children were out at one time than those before, or with those that are out one for each depth from
-- this one to 8
pub record Runs (conf : List Line) (depth : ℕ) (old new : LauncherShown) : Type 0 where
  pub bound : new.count ≤ most
  pub rises : old.count ≤ new.count
  pub longest : old.longest ≤ new.longest
  pub reads : new.longest ≤ max old.longest 1048576
  pub hasty : new.hasty ≡ old.hasty
  pub out : new.out ≡ old.out
  pub deepest : new.deepest ≤ max old.deepest (old.out + (9 - depth))
  pub tried : TriesMore conf old new

-- a fault comes only if the count of failures rose, or the child that came back last was read as often as it may be
abbrev pub FaultRose : Driven → LauncherShown → LauncherShown → Type 0
FaultRose StartFailed old new = Rose old.count new.count
FaultRose ReadFailed old new = Rose old.count new.count ⊎ (new.reads ≡ 1048576)
FaultRose WaitFailed old new = Rose old.count new.count
FaultRose _ old new = Unit {0}

-- how the child that came back last has ended is what is returned, and it was waited for only at the end of its output; if a start failed, nothing is new but
-- the count and the command, and where none was to be, nothing
abbrev pub TellsEnd : Driven → LauncherShown → LauncherShown → Type 0
TellsEnd (Ended how) old new = (new.last ≡ Some (Some how)) × (new.at_end ≡ true)
TellsEnd (NoPayload fault) old new = (new.last ≡ Some (Some (Exit 0))) × (new.at_end ≡ true)
TellsEnd WaitFailed old new = (new.last ≡ Some None) × (new.at_end ≡ true)
TellsEnd ReadFailed old new = new.last ≡ None
TellsEnd StartFailed old new = new ≡ record old { count = new.count; tried = new.tried }
TellsEnd NotStarted old new = new ≡ old
TellsEnd (NotMade fault) old new = new ≡ old
TellsEnd NoMemory old new = new ≡ old

-- what is returned if one command followed another: of the later one, if it was started
abbrev pub later_of : Driven → Driven → Driven
later_of first NotStarted = first
later_of first (NotMade fault) = first
later_of first NoMemory = first
later_of first StartFailed = first
later_of first second = second

-- a child ran
abbrev pub HasRun : Driven → Type 0
HasRun NotStarted = ⊥
HasRun (NotMade fault) = ⊥
HasRun NoMemory = ⊥
HasRun StartFailed = ⊥
HasRun _ = Unit {0}

-- what was to be started for one command of a launch while so many children were out: nothing if none was prepared; else the command of the line that is
-- chosen for the subject, once, and then what its handler's own starts are, while it is out
abbrev pub Tries : List Line → Subject → ℕ → Driven → List Tried → Type 0
Tries conf subject out NotStarted tried = tried ≡ []
Tries conf subject out (NotMade fault) tried = tried ≡ []
Tries conf subject out NoMemory tried = tried ≡ []
Tries conf subject out _ tried = (command : Command) × (nested : List Tried) × IsCommandFor conf subject command × AreStarts conf (out + 1) nested
    × (tried ≡ record { out = out; command = command } ∷ nested)

-- what was to be started for one command of a launch, by a launcher that tells it
abbrev pub HasTried : List Line → Subject → Driven → LauncherShown → LauncherShown → Type 0
HasTried conf subject driven old new = (tried : List Tried) × (new.tried ≡ and_then old.tried tried) × Tries conf subject old.out driven tried

-- what was to be started for a launch: what makes the key; and then, if the hall hands out the construction once more, what says that it can't be made. What
-- is returned is how the later one has ended, if it was started
abbrev pub Drives : List Line → Subject → Driven → LauncherShown → LauncherShown → Type 0
Drives conf subject driven old new = HasTried conf subject driven old new
    ⊎ ((first second : Driven) × (mid : LauncherShown) × HasRun first × HasTried conf subject first old mid × (mid.out ≡ old.out)
    × HasTried conf (record subject { op = Negate }) second mid new × (driven ≡ later_of first second))

-- a child is waited for where its output was read to the end, once its input is closed, and else not
abbrev pub EndsAs : Result Unit ReadFault → Driven → ChildShown → ChildShown → Type 0
EndsAs (Err f) d old new = (d ≡ ReadFailed) × (new ≡ old)
EndsAs (Ok u) (Ended how) old new = (new ≡ record old { closed = true; waited = Some (Some how); hasty = false })
EndsAs (Ok u) WaitFailed old new = Rose old.count new.count × (new ≡ record old { count = new.count; closed = true; waited = Some None; hasty = false })
EndsAs (Ok u) _ old new = ⊥

-- what is returned of a command whose output is no payload: that, if it has ended with 0
abbrev pub without_payload : Driven → OutputFault → Driven
without_payload (Ended (Exit status)) fault = if status == 0 then NoPayload fault else Ended (Exit status)
without_payload ended fault = ended

-- what is returned of a command with this output, or none
abbrev pub told_with : Driven → Option (Result (List ℕ) OutputFault) → Driven
told_with ended (Some (Err fault)) = without_payload ended fault
told_with ended _ = ended

-- the payload, where the output is one
abbrev pub payload_in : Option (Result (List ℕ) OutputFault) → Option (List ℕ)
payload_in (Some (Ok payload)) = Some payload
payload_in _ = None
