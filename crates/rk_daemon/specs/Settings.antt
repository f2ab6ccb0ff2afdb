-- What an operator sets, and the options that set it.
use Rattle.std.specs.Prelude.{ℕ, Bool, true, false, List, [], ◌∷◌, ◌==◌, ◌&&◌, Option, Some, None, option_map, codes, if◌then◌else◌, nat_le}
use Rattle.std.specs.List.{list_all, list_any}
use Rattle.std.specs.Option.{option_and_then}
use Rattle.std.specs.Str.{bytes_eq}
use Rattle.std.specs.Str.Parse.{digits_value}
use Rattle.rk_text.specs.Numbers.{up_to}
use Rattle.rk_options.specs.Options as shared
use Rattle.rk_options.specs.Options.{Given, all_named, value_in}
use Rattle.rk_options.specs.Values.{number_in, number_up_to, path_in}
use Rattle.rk_variables.specs.Library.{is_library}
use Rattle.log.specs.declared.level.Level.{Level}
use Rattle.log.specs.declared.level.Level.TheVariants as level
use Rattle.rk_daemon.specs.declared.settings.Settings.{Settings}
use Rattle.rk_daemon.specs.declared.settings.LogSettings.{LogSettings}

-- what is set of the log: its level, seconds after which a handler is slow, seconds between lines of figures
pub record LogSet : Type 0 where
  pub level : Level
  pub slow : ℕ
  pub status : ℕ

-- what is set: the path of the socket and that of the configuration; seconds; how many connections are served at a time, and in all; permission bits;
-- the library that is preloaded; the folder of the record; whether the end of standard input ends it; seconds of silence; the log
pub record Set : Type 0 where
  pub socket : List ℕ
  pub conf : List ℕ
  pub negative : ℕ
  pub sessions : ℕ
  pub clients : ℕ
  pub mode : ℕ
  pub keyutils : Option (List ℕ)
  pub folder : Option (List ℕ)
  pub until_eof : Bool
  pub idle : ℕ
  pub log : LogSet

-- the same, of settings of the log
abbrev pub log_set_by : LogSettings → LogSet
log_set_by s = record { level = s.level; slow = s.slow; status = s.status }

-- the same, of settings
abbrev pub set_by : Settings → Set
set_by s = record {
  socket = s.socket.now;
  conf = s.conf.now;
  negative = s.negative;
  sessions = s.sessions;
  clients = s.clients;
  mode = s.mode;
  keyutils = option_map (λ p. p.now) s.keyutils;
  folder = option_map (λ p. p.now) s.folder;
  until_eof = s.until_eof;
  idle = s.idle;
  log = log_set_by s.log;
}

-- the options that words say, of which one is a flag
abbrev pub options_of : List (List ℕ) → Option (List Given)
options_of words = shared.options_of (codes "--until-eof" ∷ []) words

-- the options that there are
abbrev pub is_known : List ℕ → Bool
is_known name = list_any (bytes_eq name)
    (codes "--socket" ∷ codes "--conf" ∷ codes "--negative" ∷ codes "--sessions" ∷ codes "--clients" ∷ codes "--mode" ∷ codes "--keyutils"
    ∷ codes "--record" ∷ codes "--until-eof" ∷ codes "--idle" ∷ codes "--log" ∷ codes "--slow" ∷ codes "--status" ∷ [])

-- the byte is one of the digits 0 to 7
abbrev pub is_octal_digit : ℕ → Bool
is_octal_digit b = nat_le 48 b && nat_le b 55

-- one octal digit or more, and no sign
unfoldable pub octal_said : List ℕ → Option ℕ
octal_said [] = None
octal_said (b ∷ bs) = if list_all is_octal_digit (b ∷ bs) then Some (digits_value 8 (b ∷ bs)) else None

-- permission bits
abbrev pub permissions_said : List ℕ → Option ℕ
permissions_said bytes = up_to 0o777 (octal_said bytes)

-- the number, if there is one and it is not 0
abbrev pub unless_zero : Option ℕ → Option ℕ
unless_zero None = None
unless_zero (Some n) = if n == 0 then None else Some n

-- a path that can be preloaded, or none if there is no value
abbrev pub library_or_none : Option (List ℕ) → Option (Option (List ℕ))
library_or_none None = Some None
library_or_none (Some path) = if is_library path then Some (Some path) else None

-- the library that options give a name, if they give one
abbrev pub library_in : List ℕ → Option (List Given) → Option (Option (List ℕ))
library_in name options = option_and_then library_or_none (value_in name options)

-- a flag that is not there, or is there, without a value
abbrev pub flagged : Option (Option (List ℕ)) → Option Bool
flagged (Some None) = Some false
flagged (Some (Some [])) = Some true
flagged _ = None

-- whether options have this flag
abbrev pub flag_in : List ℕ → Option (List Given) → Option Bool
flag_in name options = flagged (value_in name options)

-- the level that a word names
abbrev pub level_said : List ℕ → Option Level
level_said word = if bytes_eq word (codes "error") then Some level.Error
    else (if bytes_eq word (codes "warn") then Some level.Warn
    else (if bytes_eq word (codes "info") then Some level.Info
    else (if bytes_eq word (codes "debug") then Some level.Debug else None)))

-- the level that a value names, that of warnings if there is none
abbrev pub level_or_warn : Option (List ℕ) → Option Level
level_or_warn None = Some level.Warn
level_or_warn (Some word) = level_said word

-- the level that options give a name
abbrev pub level_in : List ℕ → Option (List Given) → Option Level
level_in name options = option_and_then level_or_warn (value_in name options)

-- all three of the log
abbrev pub log_together : Option Level → Option ℕ → Option ℕ → Option LogSet
log_together (Some level) (Some slow) (Some status) = Some (record { level = level; slow = slow; status = status })
log_together _ _ _ = None

-- what options set of the log
abbrev pub log_set_in : Option (List Given) → Option LogSet
log_set_in options = log_together (level_in (codes "--log") options)
    (number_in (codes "--slow") 60 (number_up_to 4294967295) options)
    (number_in (codes "--status") 0 (number_up_to 4294967295) options)

-- all eleven
abbrev pub together : Option (List ℕ) → Option (List ℕ) → Option ℕ → Option ℕ → Option ℕ → Option ℕ → Option (Option (List ℕ))
    → Option (Option (List ℕ)) → Option Bool → Option ℕ → Option LogSet → Option Set
together (Some socket) (Some conf) (Some negative) (Some sessions) (Some clients) (Some mode) (Some keyutils) (Some folder) (Some until_eof) (Some idle)
    (Some log) = Some (record {
      socket = socket;
      conf = conf;
      negative = negative;
      sessions = sessions;
      clients = clients;
      mode = mode;
      keyutils = keyutils;
      folder = folder;
      until_eof = until_eof;
      idle = idle;
      log = log;
    })
together _ _ _ _ _ _ _ _ _ _ _ = None

-- what options set: each is known and there once at most, the paths are there, the numbers are numbers within their bounds, the library, if there is
-- one, can be preloaded, and the level is one of the four
abbrev pub set_in : Option (List Given) → Option Set
set_in options = if all_named is_known options then together
    (path_in (codes "--socket") options)
    (path_in (codes "--conf") options)
    (number_in (codes "--negative") 60 (number_up_to 4294967295) options)
    (unless_zero (number_in (codes "--sessions") 64 (number_up_to 64) options))
    (number_in (codes "--clients") 0 (number_up_to 4294967295) options)
    (number_in (codes "--mode") 0o600 permissions_said options)
    (library_in (codes "--keyutils") options)
    (value_in (codes "--record") options)
    (flag_in (codes "--until-eof") options)
    (number_in (codes "--idle") 0 (number_up_to 4294967295) options)
    (log_set_in options)
    else None

-- what words set
abbrev pub settings_said : List (List ℕ) → Option Set
settings_said words = set_in (options_of words)
