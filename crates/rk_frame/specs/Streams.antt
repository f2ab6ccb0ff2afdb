-- What stands at the front of the bytes of a stream.
use Rattle.std.specs.Prelude.{◌≡◌, ℕ, List, ◌++◌, Some, None}
use Rattle.rk_frame.specs.declared.fault.FrameFault.{FrameFault}
use Rattle.rk_frame.specs.Framing.{IsBody, frame, HasNoFrame, fault_of}

-- the next body of the stream, which goes on after it
pub record TakesBody (body : List ℕ) (old new : List ℕ) : Type 0 where
  pub is_body : IsBody body
  pub front : old ≡ frame body ++ new

-- no body is left, and no fault stands there
abbrev pub IsPartial : List ℕ → Type 0
IsPartial bytes = HasNoFrame bytes × (fault_of bytes ≡ None)

-- no body is left, and a length stands there that no frame has
abbrev pub HasFault : List ℕ → Type 0
HasFault bytes = (fault : FrameFault) × HasNoFrame bytes × (fault_of bytes ≡ Some fault)
