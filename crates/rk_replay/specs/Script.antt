-- What a whole script says.
use Rattle.std.specs.Prelude.{ℕ, List, [], ◌∷◌, map, codes, not, take, Bool, true, false, Option, Some, None, if◌then◌else◌}
use Rattle.std.specs.List.{flat_map, filter_map, prefix_len}
use Rattle.rk_machine.specs.Steps.{Beginning}
use Rattle.rk_served.specs.declared.happening.Happening.{Happening}
use Rattle.rk_replay.specs.declared.script_line.ScriptLine.{ScriptLine}
use Rattle.rk_replay.specs.declared.script_line.ScriptLine.TheVariants.{Blank, Conf, Negative, Happens, Wrong}
use Rattle.rk_text.specs.Text.{lines_of}
use Rattle.rk_replay.specs.Reading.{reading_of}
use Rattle.rk_replay.specs.Writing.{line_text}

-- something happens
abbrev pub happens : ScriptLine → Bool
happens Blank = false
happens (Conf text) = false
happens (Negative n) = false
happens (Happens now h) = true
happens Wrong = false

-- after the first happening nothing can be set any more
abbrev pub said_late : ScriptLine → ScriptLine
said_late Blank = Blank
said_late (Conf text) = Wrong
said_late (Negative n) = Wrong
said_late (Happens now h) = Happens now h
said_late Wrong = Wrong

-- what the lines say one after the other, by what each says alone
abbrev pub said_by : List ScriptLine → List ScriptLine
said_by [] = []
said_by (r ∷ rs) = r ∷ (if happens r then map said_late rs else said_by rs)

-- what the lines of a script say
abbrev pub said_in : List ℕ → List ScriptLine
said_in text = said_by (map reading_of (lines_of text))

-- ---- what is set

-- the line of the configuration that a line of a script sets, if it sets one
abbrev pub conf_in : ScriptLine → Option (List ℕ)
conf_in Blank = None
conf_in (Conf text) = Some text
conf_in (Negative n) = None
conf_in (Happens now h) = None
conf_in Wrong = None

-- the negative time that a line sets, in seconds, if it sets it
abbrev pub seconds_in : ScriptLine → Option ℕ
seconds_in Blank = None
seconds_in (Conf text) = None
seconds_in (Negative n) = Some n
seconds_in (Happens now h) = None
seconds_in Wrong = None

-- the configuration of a script that sets none
abbrev pub default_conf : List ℕ
default_conf = codes "create * * * /bin/handler %o %k %u %g %T %P %S"

-- the lines that are set, each with a newline; if there are none, the default
abbrev pub conf_by : List (List ℕ) → List ℕ
conf_by [] = default_conf
conf_by (line ∷ lines) = flat_map line_text (line ∷ lines)

-- the text of the configuration
abbrev pub conf_of : List ScriptLine → List ℕ
conf_of rs = conf_by (filter_map conf_in rs)

-- the last of some numbers, or the one that stands where there are none
abbrev pub last_of : ℕ → List ℕ → ℕ
last_of n [] = n
last_of n (m ∷ ms) = last_of m ms

-- what the machine begins with: the negative time that is set last, or a minute, and each serial from 1 on
abbrev pub beginning_of : List ScriptLine → Beginning
beginning_of rs = record { negative = last_of 60 (filter_map seconds_in rs); first = 1; stride = 1 }

-- ---- what happens

-- what happens on a line, with its moment, if something happens
abbrev pub happening_in : ScriptLine → Option (ℕ × Happening)
happening_in Blank = None
happening_in (Conf text) = None
happening_in (Negative n) = None
happening_in (Happens now h) = Some (now, h)
happening_in Wrong = None

-- the happenings of a script, each with its moment, in order
abbrev pub happenings_of : List ScriptLine → List (ℕ × Happening)
happenings_of rs = filter_map happening_in rs

-- the lines before the first happening
abbrev pub before_all : List ScriptLine → List ScriptLine
before_all rs = take (prefix_len (λ r. not (happens r)) rs) rs
