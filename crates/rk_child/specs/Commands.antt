-- The command of a launch.
use Rattle.std.specs.Prelude.{◌≡◌, ◌≤◌, List, Some, None}
use Rattle.rk_conf.specs.declared.line.Line.{Line}
use Rattle.rk_conf.specs.Choice.{IsChosen}
use Rattle.rk_macro.specs.declared.command.Command.{Command}
use Rattle.rk_macro.specs.declared.fault.ExpandFault.{ExpandFault}
use Rattle.rk_macro.specs.declared.subject.Subject.{Subject}
use Rattle.rk_macro.specs.Lookup.{Lookup}
use Rattle.rk_macro.specs.Ops.{op_name, is_piped}
use Rattle.rk_macro.specs.Expansion.{AreWords, FailsAt, size_of}
use Rattle.rk_devices.specs.declared.driven.Driven.{Driven}
use Rattle.rk_devices.specs.declared.driven.Driven.TheVariants.{NotStarted, NotMade, NoMemory}
use Rattle.rk_child.specs.declared.room.Room.{Room}
use Rattle.rk_child.specs.Rooms.{IsNewRoom}

-- whatever a lookup answers
abbrev pub any_answer : Lookup
any_answer wanted answer = Unit {0}

-- the command of the line that is chosen for the subject, by its operation, whatever the payloads are that it names
pub record IsCommandFor (conf : List Line) (subject : Subject) (command : Command) : Type 0 where
  pub line : Line
  pub chosen : IsChosen conf (op_name subject.op) subject.typ subject.desc subject.callout (Some line)
  pub path : command.path ≡ line.prog
  pub piped : command.piped ≡ is_piped subject.op line.piped
  pub words : AreWords any_answer subject line.args command.words
  pub short : size_of command.words ≤ 65536

-- the command, and empty room for its run
abbrev pub IsPrepared : List Line → Subject → Command → Room → Type 0
IsPrepared conf subject command room = IsCommandFor conf subject command × IsNewRoom command.piped room

-- the words of the line that is chosen for the subject can't be made for this reason, whatever the payloads are that it names
pub record FailsFor (conf : List Line) (subject : Subject) (fault : ExpandFault) : Type 0 where
  pub line : Line
  pub chosen : IsChosen conf (op_name subject.op) subject.typ subject.desc subject.callout (Some line)
  pub fails : FailsAt any_answer subject line.args fault

-- why no command was to be started, by what is returned: no line is for the subject; the words of the one that is can't be made; or there is a command
abbrev pub TellsWhy : List Line → Subject → Driven → Type 0
TellsWhy conf subject NotStarted = IsChosen conf (op_name subject.op) subject.typ subject.desc subject.callout None
TellsWhy conf subject (NotMade fault) = FailsFor conf subject fault
TellsWhy conf subject NoMemory = (command : Command) × IsCommandFor conf subject command
TellsWhy conf subject _ = Unit {0}

-- it says that no command was to be started
abbrev pub IsUnprepared : Driven → Type 0
IsUnprepared NotStarted = Unit {0}
IsUnprepared (NotMade fault) = Unit {0}
IsUnprepared NoMemory = Unit {0}
IsUnprepared _ = ⊥
