-- Figures of the daemon, as lines of the log.
use Rattle.std.specs.Prelude.{ℕ, List, [], ◌++◌, codes, decimal, Option, None, Some, option_map, string_bytes, unwrap_or}
use Rattle.rk_daemon.specs.declared.figures.Clients.{Clients}
use Rattle.rk_daemon.specs.declared.figures.Figures.{Figures}
use Rattle.rk_daemon.specs.declared.figures.InHalls.{InHalls}
use Rattle.rk_daemon.specs.declared.figures.InRun.{InRun}
use Rattle.rk_daemon.specs.declared.figures.Oldest.{Oldest}
use Rattle.rk_daemon.specs.declared.figures.PerHall.{PerHall}
use Rattle.rk_daemon.specs.declared.figures.Running.{Running}

-- a handler that runs, as it is warned of
abbrev pub running_text : Running → List ℕ
running_text r = codes "handler of key " ++ decimal r.key ++ unwrap_or (option_map string_bytes r.purpose) []
    ++ codes " has run for " ++ decimal r.seconds ++ codes " seconds"

-- the connections, and how many of them a worker serves
abbrev pub clients_text : Clients → List ℕ
clients_text c = codes "connections " ++ decimal c.open ++ codes ", workers busy " ++ decimal c.served

-- the handler that was started first
abbrev pub oldest_text : Oldest → List ℕ
oldest_text o = codes "the oldest of key " ++ decimal o.key ++ codes " for " ++ decimal o.seconds ++ codes " s"

-- how many handlers run, and which of them was started first
abbrev pub running_and : ℕ → Option Oldest → List ℕ
running_and count None = codes "handlers " ++ decimal count
running_and count (Some o) = codes "handlers " ++ decimal count ++ codes ", " ++ oldest_text o

abbrev pub in_run_text : InRun → List ℕ
in_run_text r = running_and r.count r.oldest

-- a figure of each hall
abbrev pub per_hall_text : PerHall → List ℕ
per_hall_text h = decimal h.zero ++ codes "/" ++ decimal h.one ++ codes "/" ++ decimal h.two ++ codes "/" ++ decimal h.three

-- how much there is in the halls
abbrev pub in_halls_text : InHalls → List ℕ
in_halls_text h = codes "keys " ++ per_hall_text h.keys ++ codes ", constructions " ++ per_hall_text h.constructions
    ++ codes ", EDQUOTs " ++ per_hall_text h.edquots

-- all of it
abbrev pub figures_text : Figures → List ℕ
figures_text g = codes "status: " ++ clients_text g.clients ++ codes ", " ++ in_run_text g.handlers ++ codes ", " ++ in_halls_text g.halls
    ++ codes ", volumes " ++ decimal g.volumes
