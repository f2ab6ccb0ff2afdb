-- How many lines of a kind are written.
use Rattle.std.specs.Prelude.{ℕ, Bool, ◌+◌, ◌-◌, ◌^◌, min, if◌then◌else◌, nat_lt}
use Rattle.rk_daemon.specs.declared.tally.Count.{Count}

-- so many more, at most the greatest u32
abbrev pub more : ℕ → ℕ → ℕ
more a b = min (a + b) (2 ^ 32 - 1)

-- in this minute, or in the newest one if that is later; what was left out in a minute that is over was so earlier
abbrev pub at : ℕ → Count → Count
at minute c = if nat_lt c.minute minute then record { minute = minute; written = 0; left_out = 0; earlier = more c.earlier c.left_out } else c

-- whether one more line in this minute is written: ten are
abbrev pub admits : ℕ → Count → Bool
admits minute c = nat_lt (at minute c).written 10

-- one more line that is written, or left out
abbrev pub one_more : Count → Count
one_more c = if nat_lt c.written 10 then record c { written = c.written + 1 } else record c { left_out = more c.left_out 1 }

-- one more line in this minute
abbrev pub counted : ℕ → Count → Count
counted minute c = one_more (at minute c)

-- how many lines were left out in minutes that are over
abbrev pub left_out : ℕ → Count → ℕ
left_out minute c = if nat_lt c.minute minute then more c.earlier c.left_out else c.earlier

-- they are counted from 0 again
abbrev pub emptied : ℕ → Count → Count
emptied minute c = if nat_lt c.minute minute then record c { left_out = 0; earlier = 0 } else record c { earlier = 0 }
