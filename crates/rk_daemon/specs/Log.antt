-- Lines of the log.
use Rattle.std.specs.Prelude.{ℕ, Bool, false, ◌&&◌, List, ◌==◌, codes, length, Option, Some, None, if◌then◌else◌, nat_lt}
use Rattle.std.specs.List.{after_first, before_first, position_or_len}
use Rattle.std.specs.Str.{bytes_eq}
use Rattle.log.specs.declared.level.Level.{Level}
use Rattle.log.specs.declared.level.Level.TheVariants as level
use Rattle.rk_text.specs.Numbers.{number_of, up_to}
use Rattle.rk_daemon.specs.declared.kind.Kind.{Kind}
use Rattle.rk_daemon.specs.declared.kind.Kind.TheVariants as kind

-- the kind of the lines of a module
abbrev pub kind_of : List ℕ → Kind
kind_of path = if bytes_eq path (codes "rk_daemon::workers") then kind.Session
    else (if bytes_eq path (codes "rk_daemon::gate") then kind.Handler
    else (if bytes_eq path (codes "rk_daemon::system_post") then kind.Slow
    else (if bytes_eq path (codes "rk_daemon::entrance") then kind.Busy
    else (if bytes_eq path (codes "rk_daemon::accepting") then kind.Accept else kind.Other))))

-- what a kind is called
abbrev pub kind_text : Kind → List ℕ
kind_text kind.Session = codes "sessions"
kind_text kind.Handler = codes "handlers"
kind_text kind.Slow = codes "slow handlers"
kind_text kind.Busy = codes "busy workers"
kind_text kind.Accept = codes "accept"
kind_text kind.Other = codes "other"

-- the byte between two numbers of a stream
abbrev pub is_colon : ℕ → Bool
is_colon b = b == 58

-- the bytes say this number
abbrev pub says : List ℕ → ℕ → Bool
says bytes n = is_number (up_to 18446744073709551615 (number_of bytes))
  where
    is_number : Option ℕ → Bool
    is_number None = false
    is_number (Some m) = m == n

-- the text is a device, a colon, and a file of it
abbrev pub names_stream : List ℕ → ℕ → ℕ → Bool
names_stream text device file = if nat_lt (position_or_len is_colon text) (length text)
    then says (before_first is_colon text) device && says (after_first is_colon text) file else false

-- the priority of a level: syslog(3)
abbrev pub priority : Level → ℕ
priority level.Error = 3
priority level.Warn = 4
priority level.Info = 6
priority level.Debug = 7
priority level.Trace = 7

-- the name of a level
abbrev pub level_text : Level → List ℕ
level_text level.Error = codes "error"
level_text level.Warn = codes "warn"
level_text level.Info = codes "info"
level_text level.Debug = codes "debug"
level_text level.Trace = codes "debug"
