-- Digits that were read one after the other.
use Rattle.std.proofs.Common.{◌≡◌, ℕ, ◌<◌, List, [], ◌∷◌, length, true, sym, ap, arith}
use Rattle.std.specs.Prelude.{Some}
use Rattle.std.specs.List.{list_all}
use Rattle.std.specs.Char.{is_ascii_digit}
use Rattle.std.specs.Str.Parse.{digits_value}
use Rattle.rk_text.specs.Numbers.{number_of}

-- digits say their value
pub number_is : (bytes : List ℕ) (n : ℕ) → 0 < length bytes → list_all is_ascii_digit bytes ≡ true → n ≡ digits_value 10 bytes → number_of bytes ≡ Some n
unfolding number_of
number_is [] n some digits e = absurd (omega arith)
number_is (b ∷ bs) n some digits e = rw digits (ap Some (sym e))
