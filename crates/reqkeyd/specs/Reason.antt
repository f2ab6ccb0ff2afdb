-- Which file a fault of the start is of.
use Rattle.std.specs.Prelude.{ℕ, List, [], codes, unwrap_or}
use Rattle.rk_daemon.specs.declared.fault.Fault.{Fault}
use Rattle.rk_daemon.specs.declared.fault.Fault.TheVariants.{Unreadable, Conf, Random, Record, Recorded, Keyutils, Socket, Stream, NoMemory}
use Rattle.rk_daemon.specs.Settings.{Set}

-- the file, or what else it is of
abbrev pub file_of : Set → Fault → List ℕ
file_of set (Unreadable error) = set.conf
file_of set (Conf fault) = set.conf
file_of set (Random error) = codes "getrandom(2)"
file_of set (Record error) = unwrap_or set.folder []
file_of set Recorded = unwrap_or set.folder []
file_of set (Keyutils error) = unwrap_or set.keyutils []
file_of set (Socket error) = set.socket
file_of set (Stream error) = codes "/dev/null"
file_of set NoMemory = []
