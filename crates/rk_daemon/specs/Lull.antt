-- For how long a client is waited for.
use Rattle.std.specs.Prelude.{ℕ, Bool, true, false, ◌-◌, ◌&&◌, nat_lt, if◌then◌else◌}
use Rattle.rk_daemon.specs.declared.lull.Lull.{Lull}
use Rattle.rk_daemon.specs.declared.lull.Timer.{Timer}
use Rattle.rk_daemon.specs.declared.lull.Timer.TheVariants.{Off, On, Since}

-- a wait that the clock doesn't measure
abbrev pub fresh : ℕ → Lull
fresh limit = record { limit = limit; is_amid = false; timer = Off }

-- something came: what was waited for before that doesn't count, if nothing had come
abbrev pub heard : Lull → Lull
heard l = if l.is_amid then l else record l { is_amid = true; timer = On }

-- the clock measures it, unless it does already
abbrev pub on : Timer → Timer
on Off = On
on On = On
on (Since start) = Since start

abbrev pub begun : Lull → Lull
begun l = record l { timer = on l.timer }

-- the clock measures it
abbrev pub runs : Timer → Bool
runs Off = false
runs On = true
runs (Since start) = true

-- it has a limit, and the clock measures it
abbrev pub is_timed : Lull → Bool
is_timed l = nat_lt 0 l.limit && runs l.timer

-- the clock shows this second for the first time, and the wait is measured from there
abbrev pub seen : ℕ → Timer → Timer
seen now Off = Off
seen now On = Since now
seen now (Since start) = Since start

abbrev pub looked : ℕ → Lull → Lull
looked now l = record l { timer = seen now l.timer }

-- more seconds have gone by since then than it may last
abbrev pub is_past : ℕ → ℕ → Timer → Bool
is_past limit now Off = false
is_past limit now On = false
is_past limit now (Since start) = nat_lt limit (now - start)

abbrev pub is_over : ℕ → Lull → Bool
is_over now l = is_past l.limit now l.timer
