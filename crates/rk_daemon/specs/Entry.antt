-- A line of the log.
use Rattle.std.specs.Prelude.{ℕ, List, ◌++◌, codes, decimal, Option, Some, None}
use Rattle.std.specs.Fmt.{option_append}
use Rattle.jiff.specs.Types.{DateTime}
use Rattle.jiff.specs.Words.{iso_datetime_text}
use Rattle.log.specs.declared.level.Level.{Level}
use Rattle.rk_daemon.specs.declared.entry.Prefix.{Prefix}
use Rattle.rk_daemon.specs.declared.style.Style.{Style}
use Rattle.rk_daemon.specs.declared.style.Style.TheVariants.{Journal, Timed}
use Rattle.rk_daemon.specs.Log.{level_text, priority}

-- the time of day, and `-` if there is none
abbrev pub time_text : Option DateTime → List ℕ
time_text None = codes "-"
time_text (Some time) = iso_datetime_text time ++ codes "Z"

-- how a line begins
abbrev pub begins : Style → Option DateTime → Level → List ℕ
begins Journal time level = codes "<" ++ decimal (priority level) ++ codes ">"
begins Timed time level = time_text time ++ codes " " ++ level_text level ++ codes ": "

-- the text before what a line of the log says
abbrev pub prefix_text : Prefix → List ℕ
prefix_text h = begins h.style h.time h.level

-- that, and what it says, if that is known
abbrev pub entry_text : Prefix → Option (List ℕ) → Option (List ℕ)
entry_text prefix text = option_append (Some (prefix_text prefix)) text
