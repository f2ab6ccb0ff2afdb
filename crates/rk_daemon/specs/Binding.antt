-- How a volume is tied to the one before it.
use Rattle.std.specs.Prelude.{ℕ, Bool, List, [], ◌∷◌, Option, unwrap_or}
use Rattle.rk_volumes.specs.declared.head.Head.{Head}
use Rattle.rk_volumes.specs.declared.seal.Seal.{Seal}

-- what is done: it is waited until the volume before the one with this index is done with, which has this sum; the volume is written in its seal, and has this
-- sum, or can't be; the one with this index is done with, and the next one has to say this sum
pub data Act : Type 0 where
  Awaited : ℕ → List ℕ → Act
  Written : Seal → Head → Option (List ℕ) → Act
  Settled : ℕ → List ℕ → Act

-- a volume is written, in the seal that says the sum of the one before it; the next one is tied to it, and to the one before it if it can't be written
pub data Binds (run : List ℕ) (closing : Bool) (h : Head) : List Act → Type 0 where
  bound : (previous : List ℕ) (sum : Option (List ℕ)) → Binds run closing h (Awaited h.index previous
      ∷ Written (record { run = run; closing = closing; previous = previous }) h sum ∷ Settled h.index (unwrap_or sum previous) ∷ [])
