-- The bytes of a payload.
use Rattle.std.specs.Prelude.{ℕ, List}
use Rattle.rk_names.specs.declared.payload.PayloadBytes.{PayloadBytes}
use Rattle.rk_names.specs.declared.payload.PayloadBytes.TheVariants as bytes

-- they are the same, wherever they lie
abbrev pub payload_bytes : PayloadBytes → List ℕ
payload_bytes (bytes.Moved b) = b.items
payload_bytes (bytes.Shared b) = b
