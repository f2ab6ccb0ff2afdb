-- What is printed of a configuration.
use Rattle.std.specs.Prelude.{◌≡◌, ℕ, List, [], length, Option, Some, None, Ok}
use Rattle.rk_conf.specs.declared.line.Line.{Line}
use Rattle.rk_conf.specs.Choice.{IsChosen}
use Rattle.rk_conf.specs.Faults.{IsFaultFor}
use Rattle.rk_conf.specs.Reading.{faults_in, lines_in}
use Rattle.rk_macro.specs.declared.subject.Subject.{Subject}
use Rattle.rk_macro.specs.Lookup.{Lookup}
use Rattle.rk_macro.specs.Ops.{op_name, is_piped}
use Rattle.rk_macro.specs.Expansion.{AreWords, FailsAt}
use Rattle.rk_preview.specs.declared.fault.Fault.{Fault}
use Rattle.rk_preview.specs.declared.fault.Fault.TheVariants as fault
use Rattle.rk_preview.specs.Asked.{Asked, check, pick}
use Rattle.rk_preview.specs.Text.{command_text, count_text}

-- no key is looked for, and none is found
abbrev pub finds_none : Lookup
finds_none wanted answer = answer ≡ Ok None

-- the line that the configuration of a text chooses for the subject
abbrev pub IsLineFor : List ℕ → Subject → Option Line → Type 0
IsLineFor input subject line = IsChosen (lines_in input) (op_name subject.op) subject.typ subject.desc subject.callout line

-- the text tells the command of a line: the words that its arguments stand for
abbrev pub TellsLine : Line → Subject → List ℕ → Type 0
TellsLine line subject text = (words : List (List ℕ)) × AreWords finds_none subject line.args words
    × (text ≡ command_text line.number (is_piped subject.op line.piped) line.prog words)

-- the configuration has no fault, and the text tells the command of the line that is chosen
abbrev pub IsPicked : Subject → List ℕ → List ℕ → Type 0
IsPicked subject input text = (line : Line) × (faults_in input ≡ []) × IsLineFor input subject (Some line) × TellsLine line subject text

-- the configuration has no fault, and the text tells how many lines it has
abbrev pub IsChecked : List ℕ → List ℕ → Type 0
IsChecked input text = (faults_in input ≡ []) × (text ≡ count_text (length (lines_in input)))

-- why a line's command is not told
abbrev pub FailsLine : Line → Subject → Fault → Type 0
FailsLine line subject (fault.NoWords number why) = (number ≡ line.number) × FailsAt finds_none subject line.args why
FailsLine line subject fault.NoMemory = Unit {0}
FailsLine line subject _ = ⊥

-- why no command is printed: a fault of the configuration, no line, or no words
abbrev pub IsNotPicked : Subject → List ℕ → Fault → Type 0
IsNotPicked subject input (fault.Conf why) = IsFaultFor why (faults_in input)
IsNotPicked subject input fault.NoLine = (faults_in input ≡ []) × IsLineFor input subject None
IsNotPicked subject input (fault.NoWords number why) =
    (line : Line) × (faults_in input ≡ []) × IsLineFor input subject (Some line) × FailsLine line subject (fault.NoWords number why)
IsNotPicked subject input fault.NoMemory = (line : Line) × (faults_in input ≡ []) × IsLineFor input subject (Some line)

-- why lines are not counted: a fault of the configuration
abbrev pub IsNotChecked : List ℕ → Fault → Type 0
IsNotChecked input (fault.Conf why) = IsFaultFor why (faults_in input)
IsNotChecked input fault.NoMemory = faults_in input ≡ []
IsNotChecked input _ = ⊥

-- the text is what the configuration has to say to what is asked
abbrev pub IsTold : Asked → List ℕ → List ℕ → Type 0
IsTold (check path) input text = IsChecked input text
IsTold (pick path subject) input text = IsPicked subject input text

-- the configuration has nothing to say to what is asked but this
abbrev pub IsRefused : Asked → List ℕ → Fault → Type 0
IsRefused (check path) input why = IsNotChecked input why
IsRefused (pick path subject) input why = IsNotPicked subject input why
