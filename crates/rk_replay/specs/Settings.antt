-- What one line of a script's head sets.
use Rattle.std.specs.Prelude.{◌≡◌, ℕ, List, ◌++◌, if◌then◌else◌}
use Rattle.rk_text.specs.Text.{has_bytes}
use Rattle.rk_replay.specs.declared.script_line.ScriptLine.{ScriptLine}
use Rattle.rk_replay.specs.declared.script_line.ScriptLine.TheVariants.{Blank, Conf, Negative, Happens, Wrong}
use Rattle.rk_replay.specs.declared.settings.Settings.{Settings}
use Rattle.rk_replay.specs.declared.transcript.LineFault.TheVariants.{NotALine}
use Rattle.rk_replay.specs.Writing.{line_text, fault_line}
use Rattle.rk_replay.specs.Script.{default_conf}

-- the configuration of these lines, or the default if there are none
abbrev pub configured : List ℕ → List ℕ
configured conf = if has_bytes conf then conf else default_conf

-- the settings and the text, before and after a line
abbrev pub Sets : ScriptLine → ℕ → Settings → List ℕ → Settings → List ℕ → Type 0
Sets Blank number old text new text' = (new ≡ old) × (text' ≡ text)
Sets (Conf line) number old text new text' = (new ≡ record old { conf = old.conf ++ line_text line }) × (text' ≡ text)
Sets (Negative n) number old text new text' = (new ≡ record old { negative = n }) × (text' ≡ text)
Sets (Happens now h) number old text new text' = (new ≡ old) × (text' ≡ text)
Sets Wrong number old text new text' = (new ≡ old) × (text' ≡ text ++ fault_line number NotALine)
