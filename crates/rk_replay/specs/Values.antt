-- What a field of a script line is read as.
use Rattle.std.specs.Prelude.{ℕ, ◌-◌, ◌^◌, List, length, Option, None, option_and_then, nat_lt, if◌then◌else◌}
use Rattle.std.specs.Result.{result_ok}
use Rattle.hex.specs.Hex.{decode_of}
use Rattle.rk_text.specs.Numbers.{number_of, up_to}
use Rattle.rk_text.specs.Text.{has_bytes}
use Rattle.rk_names.specs.Numbers.{serial_of}

-- a number with at most 20 digits
abbrev pub short_number : List ℕ → Option ℕ
short_number field = if nat_lt 20 (length field) then None else number_of field

-- a moment: 1 to 20 digits, at most the greatest u64
abbrev pub moment_of : List ℕ → Option ℕ
moment_of field = up_to (2 ^ 64 - 1) (short_number field)

-- a number of seconds: 1 to 20 digits, at most the greatest u32
abbrev pub seconds_of : List ℕ → Option ℕ
seconds_of field = up_to (2 ^ 32 - 1) (short_number field)

-- the number of a client, of 32 bits
abbrev pub client_of : List ℕ → Option ℕ
client_of field = up_to (2 ^ 32 - 1) (number_of field)

-- the serial of a key
abbrev pub key_of : List ℕ → Option ℕ
key_of field = option_and_then serial_of (number_of field)

-- the status of a handler that exited, 0 to 255
abbrev pub status_of : List ℕ → Option ℕ
status_of field = up_to 255 (number_of field)

-- an even number of hexadecimal digits, in either case, and some
abbrev pub bytes_of : List ℕ → Option (List ℕ)
bytes_of field = if has_bytes field then result_ok (decode_of field) else None
