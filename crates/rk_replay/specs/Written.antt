-- What a run of a script writes.
use Rattle.std.specs.Prelude.{◌≡◌, ℕ, ◌+◌, List, [], ◌∷◌, ◌++◌, map, reverse, Option, Some, None}
use Rattle.std.specs.List.{flat_map}
use Rattle.rk_conf.specs.declared.fault.ConfFault.{ConfFault}
use Rattle.rk_conf.specs.Reading.{faults_in, lines_in}
use Rattle.rk_machine.specs.Laws.{ContinuesTo}
use Rattle.rk_machine.specs.Steps.{Past}
use Rattle.rk_served.specs.declared.happening.Happening.{Happening}
use Rattle.rk_served.specs.declared.output.Output.{Output}
use Rattle.rk_replay.specs.declared.script_line.ScriptLine.{ScriptLine}
use Rattle.rk_replay.specs.declared.script_line.ScriptLine.TheVariants.{Blank, Conf, Negative, Happens, Wrong}
use Rattle.rk_replay.specs.declared.transcript.LineFault.TheVariants.{NotALine, Unknown}
use Rattle.rk_served.specs.Left.{Left}
use Rattle.rk_served.specs.Served.{Turn, Served}
use Rattle.rk_served.specs.Order.{ServedInOrder}
use Rattle.rk_replay.specs.Writing.{output_line, fault_line, conf_line}
use Rattle.rk_replay.specs.Script.{said_in, conf_of, beginning_of, happenings_of, before_all}

-- what is written for a happening on that line: its outputs, or that it was out of place
abbrev pub turn_text : ℕ → Option (List Output) → List ℕ
turn_text number None = fault_line number Unknown
turn_text number (Some outputs) = flat_map output_line outputs

-- what is written for lines, numbered from the first one's, where their happenings had these outputs, one after the other
abbrev pub text_from : ℕ → List ScriptLine → List (Option (List Output)) → List ℕ
text_from number [] told = []
text_from number (Blank ∷ rs) told = text_from (number + 1) rs told
text_from number (Conf text ∷ rs) told = text_from (number + 1) rs told
text_from number (Negative n ∷ rs) told = text_from (number + 1) rs told
text_from number (Wrong ∷ rs) told = fault_line number NotALine ++ text_from (number + 1) rs told
text_from number (Happens now h ∷ rs) [] = text_from (number + 1) rs []
text_from number (Happens now h ∷ rs) (outputs ∷ told) = turn_text number outputs ++ text_from (number + 1) rs told

-- the moment and the happening of a turn
abbrev pub moment_of : Turn → ℕ × Happening
moment_of turn = (turn.now, turn.happening)

-- what was output for a turn; None if its happening was out of place
abbrev pub outputs_in : Turn → Option (List Output)
outputs_in turn = turn.outputs

-- The text is the lines of a served list for the happenings of the script, with the script's configuration, and nothing else. The steps of
-- that list, the newest first, are a run of the machine, and obey the laws of every run. It is served in the order of work.
pub record IsWritten (input text : List ℕ) : Type 0 where
  pub turns : List Turn
  pub run : List Past
  pub left : Left
  pub sound : faults_in (conf_of (said_in input)) ≡ []
  pub served : Served (lines_in (conf_of (said_in input))) (beginning_of (said_in input)) turns run left
  pub in_order : ServedInOrder (lines_in (conf_of (said_in input))) (beginning_of (said_in input)) turns run left
  pub lawful : ContinuesTo (beginning_of (said_in input)) (reverse run) left.world
  pub happenings : map moment_of turns ≡ happenings_of (said_in input)
  pub text_is : text ≡ text_from 1 (said_in input) (map outputs_in turns)

-- The configuration has a fault: the text has the invalid lines before the first happening, and last the fault.
pub record IsRefused (input text : List ℕ) : Type 0 where
  pub fault : ConfFault
  pub others : List ConfFault
  pub faults : faults_in (conf_of (said_in input)) ≡ fault ∷ others
  pub text_is : text ≡ text_from 1 (before_all (said_in input)) [] ++ conf_line fault
