-- What a byte says as a hexadecimal digit.
use Rattle.std.specs.Prelude.{ℕ, unwrap_or}
use Rattle.hex.specs.Hex.{hex_digit_value}

-- its value, or 16 where it is none
abbrev pub value_or_none : ℕ → ℕ
value_or_none byte = unwrap_or (hex_digit_value byte) 16
