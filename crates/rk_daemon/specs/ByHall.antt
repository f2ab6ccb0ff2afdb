-- One of each for a hall.
use Rattle.rk_record.specs.declared.hall_no.HallNo.{HallNo}
use Rattle.rk_record.specs.declared.hall_no.HallNo.TheVariants.{Zero, One, Two, Three}
use Rattle.rk_daemon.specs.declared.by_hall.ByHall.{ByHall}

-- that of this hall
abbrev pub of_hall : {T : Type 0} → HallNo → ByHall T → T
of_hall Zero b = b.zero
of_hall One b = b.one
of_hall Two b = b.two
of_hall Three b = b.three
