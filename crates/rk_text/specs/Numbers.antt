-- What number a text says.
use Rattle.std.specs.Prelude.{ℕ, List, ◌&&◌, Option, Some, None, nat_le, if◌then◌else◌}
use Rattle.std.specs.List.{list_all}
use Rattle.std.specs.Char.{is_ascii_digit}
use Rattle.std.specs.Str.Parse.{digits_value}
use Rattle.rk_text.specs.Text.{has_bytes}

-- one decimal digit or more, and no sign
unfoldable pub number_of : List ℕ → Option ℕ
number_of bytes = if has_bytes bytes && list_all is_ascii_digit bytes then Some (digits_value 10 bytes) else None

-- where it is not above the limit
abbrev pub up_to : ℕ → Option ℕ → Option ℕ
up_to limit None = None
up_to limit (Some n) = if nat_le n limit then Some n else None
