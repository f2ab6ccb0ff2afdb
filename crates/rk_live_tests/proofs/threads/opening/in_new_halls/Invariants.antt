use Rattle.rk_hall.proofs.LedgerNames.{name_of}
use Rattle.rk_live_tests.proofs.threads.opening.in_new_halls.Given as goal

abbrev pub ghosts-play_under : goal.ghosts-play_under
ghosts-play_under g a = record { name = name_of a.fresh }
