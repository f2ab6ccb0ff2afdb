use Rattle.rk_hall.proofs.LedgerNames.{name_of}
use Rattle.rk_daemon.proofs.serving.serve_named.Given as goal

abbrev pub ghosts-serve_at : goal.ghosts-serve_at
ghosts-serve_at g a = record { name = name_of a.fresh }
