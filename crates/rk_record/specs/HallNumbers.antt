-- The numbers of the halls.
use Rattle.std.specs.Prelude.{ℕ}
use Rattle.rk_record.specs.declared.hall_no.HallNo.{HallNo}
use Rattle.rk_record.specs.declared.hall_no.HallNo.TheVariants.{Zero, One, Two, Three}

-- 0 to 3
abbrev pub hall_number : HallNo → ℕ
hall_number Zero = 0
hall_number One = 1
hall_number Two = 2
hall_number Three = 3
