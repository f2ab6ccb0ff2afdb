-- What the daemon's clock looks after, and what it tells.
use Rattle.std.specs.Prelude.{◌≡◌, ◌<◌, ℕ, Bool, true, false, ◌-◌, ◌/◌, ◌&&◌, nat_le, nat_lt, List, [], ◌∷◌, ◌++◌, if◌then◌else◌}
use Rattle.rk_hall.specs.declared.counts.Counts.{Counts}
use Rattle.rk_record.specs.declared.hall_no.HallNo.{HallNo}
use Rattle.rk_record.specs.declared.hall_no.HallNo.TheVariants.{Zero, One, Two, Three}
use Rattle.rk_daemon.specs.declared.figures.Clients.{Clients}
use Rattle.rk_daemon.specs.declared.figures.Figures.{Figures}
use Rattle.rk_daemon.specs.declared.figures.InHalls.{InHalls}
use Rattle.rk_daemon.specs.declared.figures.InRun.{InRun}
use Rattle.rk_daemon.specs.declared.settings.LogSettings.{LogSettings}
use Rattle.rk_daemon.specs.InHalls.{in_halls}

-- what is done: the clock is looked at, which shows this second; it is told how many lines were left out before a minute, and which handlers have run now for so
-- many seconds; connections, handlers, what is in a hall, and volumes are counted; figures are told
pub data Act : Type 0 where
  Looked : ℕ → Act
  ToldLeftOut : ℕ → Act
  ToldSlow : ℕ → ℕ → Act
  FoundClients : Clients → Act
  FoundHandlers : ℕ → InRun → Act
  Counted : HallNo → Counts → Act
  FoundVolumes : ℕ → Act
  Told : Figures → Act

-- each hall is counted once, and what there is in each is what was counted in it
pub data CountsHalls : InHalls → List Act → Type 0 where
  halls : (z o t h : Counts) → CountsHalls (in_halls z o t h) (Counted Zero z ∷ Counted One o ∷ Counted Two t ∷ Counted Three h ∷ [])

-- all is counted, and told
pub data TellsFigures (now : ℕ) : List Act → Type 0 where
  figured : (c : Clients) (r : InRun) (i : InHalls) (v : ℕ) (acts : List Act) → CountsHalls i acts
      → TellsFigures now (FoundClients c ∷ FoundHandlers now r ∷ (acts ++ FoundVolumes v ∷ Told (record { clients = c; handlers = r; halls = i; volumes = v }) ∷ []))

-- whether so many seconds have gone by since this one; 0 is for never
abbrev pub is_due : ℕ → ℕ → ℕ → Bool
is_due told now seconds = nat_lt 0 seconds && nat_le seconds (now - told)

-- handlers that have run for so many seconds are told, if there is such a time
pub data TellsSlow (now : ℕ) : ℕ → List Act → Type 0 where
  never : TellsSlow now 0 []
  slow_ones : (seconds : ℕ) → 0 < seconds → TellsSlow now seconds (ToldSlow now seconds ∷ [])

-- figures are told if they are due: when they were told last, before and after
pub data TellsDue (now seconds : ℕ) : ℕ → ℕ → List Act → Type 0 where
  early : (told : ℕ) → is_due told now seconds ≡ false → TellsDue now seconds told told []
  due : (told : ℕ) (acts : List Act) → is_due told now seconds ≡ true → TellsFigures now acts → TellsDue now seconds told now acts

-- once a second: what was left out before this minute, handlers that have run for long, and figures, if they are due
pub data LooksAfter (settings : LogSettings) : ℕ → ℕ → List Act → Type 0 where
  looks : (now told next : ℕ) (slow figures : List Act) → TellsSlow now settings.slow slow → TellsDue now settings.status told next figures
      → LooksAfter settings told next (Looked now ∷ ToldLeftOut (now / 60) ∷ (slow ++ figures))
