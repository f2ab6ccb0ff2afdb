-- How a client is read and written to, where signals interrupt and time runs out.
use Rattle.std.specs.Prelude.{◌≡◌, ◌≢◌, ℕ, Bool, true, false, List, [], ◌∷◌, ◌++◌, drop, Option, None, Some, Result, Ok, Err}
use Rattle.std.specs.declared.io.ErrorKind.{ErrorKind}
use Rattle.std.specs.declared.io.ErrorKind.TheVariants.{Interrupted, WouldBlock, WriteZero}
use Rattle.rk_daemon.specs.declared.lull.Lull.{Lull}
use Rattle.rk_daemon.specs.Line.{Act, HasRead, HasWritten, Looked}
use Rattle.rk_daemon.specs.Lull.{begun, heard, is_over, is_timed, looked}

-- the clock is looked at, if it measures the wait; whether that has lasted too long
pub data Watches : Lull → Bool → Lull → List Act → Type 0 where
  unwatched : (l : Lull) → is_timed l ≡ false → Watches l false l []
  watched : (l : Lull) (now : ℕ) → is_timed l ≡ true → Watches l (is_over now l) (looked now l) (Looked now ∷ [])

-- a client is read once, unless it was waited for too long; what came, and nothing if a signal has interrupted that
pub data HearsOnce (l : Lull) : Option (Result ℕ ErrorKind) → Lull → List Act → Type 0 where
  late : (m : Lull) (acts : List Act) → Watches l true m acts → HearsOnce l (Some (Err WouldBlock)) m acts
  came : (m : Lull) (acts : List Act) (n : ℕ) → Watches l false m acts → HearsOnce l (Some (Ok n)) (heard m) (acts ++ HasRead (Ok n) ∷ [])
  interrupted : (m : Lull) (acts : List Act) → Watches l false m acts → HearsOnce l None (begun m) (acts ++ HasRead (Err Interrupted) ∷ [])
  failed : (m : Lull) (acts : List Act) (kind : ErrorKind) → kind ≢ Interrupted → Watches l false m acts
      → HearsOnce l (Some (Err kind)) m (acts ++ HasRead (Err kind) ∷ [])

-- a client is read, again and again while signals interrupt that
pub data Hears : Lull → Result ℕ ErrorKind → Lull → List Act → Type 0 where
  ends : (l m : Lull) (r : Result ℕ ErrorKind) (acts : List Act) → HearsOnce l (Some r) m acts → Hears l r m acts
  goes : (l m n : Lull) (r : Result ℕ ErrorKind) (acts more : List Act) → HearsOnce l None m acts → Hears m r n more → Hears l r n (acts ++ more)

-- bytes are offered once, unless that has lasted too long; how many were taken, and none if a signal has interrupted that
pub data SendsOnce (bytes : List ℕ) (l : Lull) : Result ℕ ErrorKind → Lull → List Act → Type 0 where
  late : (m : Lull) (acts : List Act) → Watches l true m acts → SendsOnce bytes l (Err WouldBlock) m acts
  refused : (m : Lull) (acts : List Act) → Watches l false m acts → SendsOnce bytes l (Err WriteZero) (begun m) (acts ++ HasWritten bytes (Ok 0) ∷ [])
  taken : (m : Lull) (acts : List Act) (n : ℕ) → n ≢ 0 → Watches l false m acts → SendsOnce bytes l (Ok n) (begun m) (acts ++ HasWritten bytes (Ok n) ∷ [])
  interrupted : (m : Lull) (acts : List Act) → Watches l false m acts → SendsOnce bytes l (Ok 0) (begun m) (acts ++ HasWritten bytes (Err Interrupted) ∷ [])
  failed : (m : Lull) (acts : List Act) (kind : ErrorKind) → kind ≢ Interrupted → Watches l false m acts
      → SendsOnce bytes l (Err kind) (begun m) (acts ++ HasWritten bytes (Err kind) ∷ [])

-- all bytes are offered, each time those that were not taken yet, until none are left or that fails
pub data Sends : List ℕ → Lull → Result Unit ErrorKind → List Act → Type 0 where
  sent : (l : Lull) (u : Unit) → Sends [] l (Ok u) []
  fails : (bytes : List ℕ) (l m : Lull) (kind : ErrorKind) (acts : List Act) → bytes ≢ [] → SendsOnce bytes l (Err kind) m acts → Sends bytes l (Err kind) acts
  goes : (bytes : List ℕ) (l m : Lull) (n : ℕ) (r : Result Unit ErrorKind) (acts more : List Act) → bytes ≢ [] → SendsOnce bytes l (Ok n) m acts
      → Sends (drop n bytes) m r more → Sends bytes l r (acts ++ more)
