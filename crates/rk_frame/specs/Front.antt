-- What stands at the front of the bytes.
use Rattle.std.specs.Prelude.{◌≡◌, ◌+◌, ◌≤◌, ℕ, List, ◌++◌, length, take, drop, Some, None}
use Rattle.rk_frame.specs.declared.front.Front.{Front}
use Rattle.rk_frame.specs.declared.front.Front.TheVariants as front
use Rattle.rk_frame.specs.Framing.{IsBody, frame, HasNoFrame, fault_of}

-- a whole frame with a body of this length; or no whole frame, with no fault and then less than one, or with this fault
abbrev pub IsFront : Front → List ℕ → Type 0
IsFront (front.Whole len) bytes = (4 + len ≤ length bytes) × IsBody (take len (drop 4 bytes)) × (bytes ≡ frame (take len (drop 4 bytes)) ++ drop (4 + len) bytes)
IsFront front.Short bytes = HasNoFrame bytes × (fault_of bytes ≡ None) × (length bytes ≤ 65539)
IsFront (front.Bad f) bytes = HasNoFrame bytes × (fault_of bytes ≡ Some f)
