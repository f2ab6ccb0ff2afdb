-- The output of a piped handler.
use Rattle.std.specs.Prelude.{ℕ, List, ◌++◌, length, nat_lt, ◌==◌, Option, Some, None, Result, Ok, Err, if◌then◌else◌}
use Rattle.std.specs.List.{fold}
use Rattle.rk_devices.specs.declared.output.OutputFault.{OutputFault}
use Rattle.rk_devices.specs.declared.output.OutputFault.TheVariants.{Empty, TooLong}

-- the bytes and those that come next, or nothing more once there are more than 32,767
abbrev pub put_out : Option (List ℕ) → List ℕ → Option (List ℕ)
put_out (Some bytes) piece = if nat_lt 32767 (length (bytes ++ piece)) then None else Some (bytes ++ piece)
put_out None piece = None

-- the same, of pieces that come one after the other
abbrev pub kept_of : Option (List ℕ) → List (List ℕ) → Option (List ℕ)
kept_of before pieces = fold put_out before pieces

-- the bytes, if there are any, and not more
abbrev pub payload_of : Option (List ℕ) → Result (List ℕ) OutputFault
payload_of (Some bytes) = if length bytes == 0 then Err Empty else Ok bytes
payload_of None = Err TooLong
