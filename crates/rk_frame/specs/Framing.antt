-- The frames of a stream: four bytes of length, the greatest first, and that many bytes of body.
use Rattle.std.specs.Prelude.{◌≡◌, ℕ, ◌≤◌, List, ◌++◌, length, take, Option, Some, None, nat_lt, ◌==◌, if◌then◌else◌}
use Rattle.std.specs.List.{flat_map, AllByRecursion}
use Rattle.std.specs.Int.{w32, to_be_bytes, from_be_bytes}
use Rattle.rk_frame.specs.declared.fault.FrameFault.{FrameFault}
use Rattle.rk_frame.specs.declared.fault.FrameFault.TheVariants.{TooLong, Empty}

-- what may stand in a frame: 1 to 65,536 bytes
abbrev pub IsBody : List ℕ → Type 0
IsBody body = (1 ≤ length body) × (length body ≤ 65536)

-- the one spelling of a body
abbrev pub frame : List ℕ → List ℕ
frame body = to_be_bytes w32 (length body) ++ body

-- no whole frame stands at the front of the bytes
abbrev pub HasNoFrame : List ℕ → Type 0
HasNoFrame bytes = (body more : List ℕ) → IsBody body → bytes ≡ frame body ++ more → ⊥

-- the stream is the frames of these bodies, and then this rest, at whose front no whole frame stands
pub record Splits (stream : List ℕ) (bodies : List (List ℕ)) (rest : List ℕ) : Type 0 where
  pub whole : stream ≡ flat_map frame bodies ++ rest
  pub each : AllByRecursion IsBody bodies
  pub ended : HasNoFrame rest

-- what is wrong with the length at the front of the bytes, once its four bytes are there
abbrev pub fault_of : List ℕ → Option FrameFault
fault_of bytes =
    if nat_lt (length bytes) 4 then None
    else (let n = from_be_bytes w32 (take 4 bytes) in if n == 0 then Some Empty else if nat_lt 65536 n then Some TooLong else None)
