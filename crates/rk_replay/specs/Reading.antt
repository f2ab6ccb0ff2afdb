-- What a line of a script says.
use Rattle.std.specs.Prelude.{ℕ, List, [], ◌∷◌, length, drop, take, codes, Option, Some, None, option_map, option_and_then, unwrap_or, nat_lt, if◌then◌else◌}
use Rattle.std.specs.Str.{bytes_eq}
use Rattle.rk_machine.specs.declared.event.How.{How}
use Rattle.rk_machine.specs.declared.event.How.TheVariants.{Exit, Signal}
use Rattle.rk_served.specs.declared.happening.Happening.{Happening}
use Rattle.rk_served.specs.declared.happening.Happening.TheVariants as happening
use Rattle.rk_served.specs.declared.happening.StartResult.TheVariants.{Started, Failed}
use Rattle.rk_replay.specs.declared.verb.Verb.{Verb}
use Rattle.rk_replay.specs.declared.verb.Verb.TheVariants as verb
use Rattle.rk_replay.specs.declared.script_line.ScriptLine.{ScriptLine}
use Rattle.rk_replay.specs.declared.script_line.ScriptLine.TheVariants.{Blank, Conf, Negative, Happens, Wrong}
use Rattle.rk_text.specs.Text.{begins_with}
use Rattle.rk_replay.specs.Text.{past_space, fields_of}
use Rattle.rk_replay.specs.Values.{moment_of, seconds_of, client_of, key_of, status_of, bytes_of}
use Rattle.rk_replay.specs.Verbs.{verb_of}
use Rattle.rk_replay.specs.Fields.{◌>>=◌, first_as, alone, sole, both}

-- how a handler ended: `exit` and a status, or `signal`
abbrev pub how_of : List (List ℕ) → Option How
how_of [] = None
how_of (word ∷ fields) =
    if bytes_eq word (codes "signal") then alone Signal fields
    else (if bytes_eq word (codes "exit") then option_map Exit (sole status_of fields) else None)

-- a key, and how its handler ended
abbrev pub ending_of : List (List ℕ) → Option Happening
ending_of fields = do
  key ← first_as key_of fields
  how ← how_of key.1
  Some (happening.HandlerEnded key.0 how)

-- what happens, by the verb and the fields after it
abbrev pub happening_by : Verb → List (List ℕ) → Option Happening
happening_by verb.Accept fields = option_map happening.Accept (sole client_of fields)
happening_by verb.Bytes fields = both client_of bytes_of happening.Bytes fields
happening_by verb.Gone fields = option_map happening.Gone (sole client_of fields)
happening_by verb.Started fields = option_map (λ k. happening.StartResult k Started) (sole key_of fields)
happening_by verb.Unstarted fields = option_map (λ k. happening.StartResult k Failed) (sole key_of fields)
happening_by verb.Out fields = both key_of bytes_of happening.HandlerBytes fields
happening_by verb.OutFault fields = option_map happening.HandlerReadFault (sole key_of fields)
happening_by verb.Ended fields = ending_of fields
happening_by verb.WaitFault fields = option_map happening.WaitFault (sole key_of fields)

-- the same by the word after the moment
abbrev pub happening_of : List ℕ → List (List ℕ) → Option Happening
happening_of word fields = option_and_then (λ v. happening_by v fields) (verb_of word)

-- a moment, and what happens then
abbrev pub event_of : List (List ℕ) → Option ScriptLine
event_of fields = do
  now ← first_as moment_of fields
  word ← first_as Some now.1
  h ← happening_of word.0 word.1
  Some (Happens now.0 h)

-- what the fields of a line say, if anything: `negative` and seconds, or a happening
abbrev pub told_by : List (List ℕ) → Option ScriptLine
told_by [] = Some Blank
told_by (word ∷ fields) = if bytes_eq word (codes "negative") then option_map Negative (sole seconds_of fields) else event_of (word ∷ fields)

-- the text of a configuration line: all that is after `conf` and one space
abbrev pub conf_text : List ℕ → Option (List ℕ)
conf_text line = let rest = past_space line in if bytes_eq (take 5 rest) (codes "conf ") then Some (drop 5 rest) else None

-- what the line says where it is neither too long nor a comment
abbrev pub reading_by : Option (List ℕ) → List (List ℕ) → ScriptLine
reading_by (Some text) fields = Conf text
reading_by None fields = unwrap_or (told_by fields) Wrong

-- what a line says, without its newline
abbrev pub reading_of : List ℕ → ScriptLine
reading_of line =
    if nat_lt 262144 (length line) then Wrong
    else (if begins_with 35 line then Blank else reading_by (conf_text line) (fields_of line))
