-- How a script is played: its head, one line after it, and all of them.
use Rattle.std.specs.Prelude.{◌≡◌, ℕ, ◌+◌, suc, List, [], ◌∷◌, ◌++◌, map, length, not, true, Option, Some, None}
use Rattle.std.specs.Borrow.{Bor}
use Rattle.std.specs.List.{flat_map, filter_map, list_all}
use Rattle.rk_conf.specs.declared.line.Line.{Line}
use Rattle.rk_text.specs.Text.{lines_of}
use Rattle.rk_machine.specs.Steps.{Beginning, Past}
use Rattle.rk_served.specs.declared.output.Output.{Output}
use Rattle.rk_replay.specs.declared.playing.First.{First}
use Rattle.rk_replay.specs.declared.playing.Head.{Head}
use Rattle.rk_replay.specs.declared.script_line.ScriptLine.{ScriptLine}
use Rattle.rk_replay.specs.declared.script_line.ScriptLine.TheVariants.{Blank, Conf, Negative, Happens, Wrong}
use Rattle.rk_replay.specs.declared.transcript.LineFault.TheVariants.{NotALine}
use Rattle.rk_served.specs.Left.{Left}
use Rattle.rk_served.specs.Served.{Turn}
use Rattle.rk_served.specs.Order.{ServesInOrder, ServedInOrder}
use Rattle.rk_replay.specs.Reading.{reading_of}
use Rattle.rk_replay.specs.Writing.{line_text, fault_line}
use Rattle.rk_replay.specs.Script.{happens, said_late, conf_in, seconds_in, last_of, happenings_of}
use Rattle.rk_replay.specs.Written.{turn_text, text_from, moment_of, outputs_in}

-- ---- the head

-- what the lines of the text that is left say
abbrev pub readings_left : Option (Bor (List ℕ)) → List ScriptLine
readings_left None = []
readings_left (Some text) = map reading_of (lines_of text.now)

-- what the lines from the first happening on say
abbrev pub readings_from : Option First → List ScriptLine
readings_from None = []
readings_from (Some first) = Happens first.now first.happening ∷ readings_left first.rest

-- one more than the bytes that are left
abbrev pub bytes_left : Option (Bor (List ℕ)) → ℕ
bytes_left None = 0
bytes_left (Some text) = suc (length text.now)

-- at most one more than the bytes from the first happening on
abbrev pub bytes_from : Option First → ℕ
bytes_from None = 0
bytes_from (Some first) = suc (bytes_left first.rest)

-- these lines are the head, and the text says which of them are invalid
pub record IsHead (input : List ℕ) (head : Head) (text : List ℕ) : Type 0 where
  pub lines : List ScriptLine
  pub all : map reading_of (lines_of input) ≡ lines ++ readings_from head.first
  pub quiet : list_all (λ r. not (happens r)) lines ≡ true
  pub counted : head.number ≡ 1 + length lines
  pub conf : head.settings.conf ≡ flat_map line_text (filter_map conf_in lines)
  pub negative : head.settings.negative ≡ last_of 60 (filter_map seconds_in lines)
  pub text_is : text ≡ text_from 1 lines []

-- ---- what follows it

-- the line changes nothing, and is written to be none
abbrev pub Refuses : ℕ → Left → List ℕ → Left → List ℕ → Type 0
Refuses number old text new text' = (new ≡ old) × (text' ≡ text ++ fault_line number NotALine)

-- what is left and the text, before and after one line
abbrev pub Plays : List Line → ℕ → ScriptLine → Left → List ℕ → Left → List ℕ → Type 0
Plays conf number Blank old text new text' = (new ≡ old) × (text' ≡ text)
Plays conf number (Conf line) old text new text' = Refuses number old text new text'
Plays conf number (Negative n) old text new text' = Refuses number old text new text'
Plays conf number Wrong old text new text' = Refuses number old text new text'
Plays conf number (Happens now h) old text new text' =
    (outputs : Option (List Output)) × (steps : List Past) × ServesInOrder conf old now h outputs steps new × (text' ≡ text ++ turn_text number outputs)

-- all lines from a number on: their happenings, in the order of work, from what a machine begins with
pub record PlaysAll (conf : List Line) (from : Beginning) (number : ℕ) (rs : List ScriptLine) (text text' : List ℕ) : Type 0 where
  pub turns : List Turn
  pub run : List Past
  pub left : Left
  pub served : ServedInOrder conf from turns run left
  pub happenings : map moment_of turns ≡ happenings_of (map said_late rs)
  pub text_is : text' ≡ text ++ text_from number (map said_late rs) (map outputs_in turns)

-- all lines from the first happening on, by their numbers; the machine begins with the head's negative time, and draws each serial from 1 on
abbrev pub PlaysBody : List Line → Head → List ℕ → List ℕ → Type 0
PlaysBody conf head text text' =
    PlaysAll conf (record { negative = head.settings.negative; first = 1; stride = 1 }) head.number (readings_from head.first) text text'
