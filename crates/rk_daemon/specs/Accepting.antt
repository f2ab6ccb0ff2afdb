-- How connections are accepted.
use Rattle.std.specs.Prelude.{◌≡◌, ℕ, ◌+◌, ◌==◌, ◌&&◌, not, Bool, true, false, List, [], ◌∷◌, ◌++◌, Option, None, Some, if◌then◌else◌}
use Rattle.rk_daemon.specs.declared.accepting.Until.{Until}
use Rattle.rk_daemon.specs.Door.{Act, Watched, Accepted, Paused, HandedOut}

-- standard input is watched if it is to be; whether it has ended
pub data Watches : Bool → Bool → List Act → Type 0 where
  unwatched : Watches false false []
  watched : (is_over : Bool) → Watches true is_over (Watched is_over ∷ [])

-- the last number, if more connections are to be accepted after it: workers are left, and it is not that of the last one
abbrev pub goes_on : Until → ℕ → Bool → Option ℕ
goes_on until number is_taken = if is_taken && not (number == until.clients) then Some number else None

-- one connection comes in after so many; how many have come then, if more may come
pub data LetsIn (until : Until) (last : ℕ) : Option ℕ → List Act → Type 0 where
  -- standard input has ended
  over : (acts : List Act) → Watches until.eof true acts → LetsIn until last None acts
  -- it can't be accepted: then nothing is done for a while
  barred : (acts : List Act) → Watches until.eof false acts → LetsIn until last (Some last) (acts ++ Accepted false ∷ Paused ∷ [])
  -- no number is left
  uncounted : (acts : List Act) → Watches until.eof false acts → last ≡ 4294967295 → LetsIn until last None (acts ++ Accepted true ∷ [])
  -- it is handed to the workers, with the next number
  let_in : (acts : List Act) (is_taken : Bool) → Watches until.eof false acts
      → LetsIn until last (goes_on until (last + 1) is_taken) (acts ++ Accepted true ∷ HandedOut (last + 1) is_taken ∷ [])

-- connections come in after so many, one after the other, until no more may
pub data Accepts (until : Until) : ℕ → List Act → Type 0 where
  ends : (last : ℕ) (acts : List Act) → LetsIn until last None acts → Accepts until last acts
  goes : (last next : ℕ) (acts more : List Act) → LetsIn until last (Some next) acts → Accepts until next more → Accepts until last (acts ++ more)
