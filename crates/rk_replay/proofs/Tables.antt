-- A table of digits, and the bytes of pairs of them.
use Rattle.std.proofs.Common.{◌≡◌, ℕ, zero, suc, ◌+◌, ◌*◌, ◌<◌, List, [], ◌∷◌, ◌++◌, replicate, get_or, Bool, true, ◌&&◌, refl, sym, subst, inl, inr, arith, eqb-true}
use Rattle.std.proofs.lemmas.Bool.{and_parts, cases_lt}
use Rattle.std.specs.Prelude.{nat_eq, Option, Some, None, Ok, unwrap_or}
use Rattle.hex.specs.Hex.{hex_digit_value, digit_or_error, pair_value, ◌>>=◌}
use Rattle.rk_replay.specs.Digits.{value_or_none}

-- two functions agree at each number below one; where that is written out, it computes
abbrev pub agree : (ℕ → ℕ) → (ℕ → ℕ) → ℕ → Bool
agree f g zero = true
agree f g (suc n) = nat_eq (f n) (g n) && agree f g n

pub agree_at : (f g : ℕ → ℕ) (n b : ℕ) → agree f g n ≡ true → b < n → f b ≡ g b
agree_at f g zero b h lt = absurd (omega arith)
agree_at f g (suc n) b h lt =
    let parts = and_parts (nat_eq (f n) (g n)) (agree f g n) h in
    elim (cases_lt b n) [
      | inl below ↦ agree_at f g n b parts.1 below
      | inr above ↦ let last : b ≡ n = omega arith in subst (λ (k : ℕ). f k ≡ g k) (sym last) (eqb-true (f n) (g n) parts.0)
    ]

-- the table: 0 to 9, A to F and a to f, each at its code
abbrev pub values : List ℕ
values =
    let letters : List ℕ = 10 ∷ 11 ∷ 12 ∷ 13 ∷ 14 ∷ 15 ∷ [] in
    replicate 48 16 ++ (0 ∷ 1 ∷ 2 ∷ 3 ∷ 4 ∷ 5 ∷ 6 ∷ 7 ∷ 8 ∷ 9 ∷ []) ++ replicate 7 16 ++ letters ++ replicate 26 16 ++ letters ++ replicate 153 16

pub values_are : (byte : ℕ) → byte < 256 → get_or values byte 0 ≡ value_or_none byte
values_are byte lt = agree_at (λ b. get_or values b 0) value_or_none 256 byte refl lt

-- two digits say a byte
pub pair_of : (a b i : ℕ) → value_or_none a < 16 → value_or_none b < 16 → pair_value a b i ≡ Ok (value_or_none a * 16 + value_or_none b)
pair_of a b i = by_values (hex_digit_value a) (hex_digit_value b)
  where
    by_values : (o p : Option ℕ) → unwrap_or o 16 < 16 → unwrap_or p 16 < 16
        → (digit_or_error a i o >>= (λ h. digit_or_error b (i + 1) p >>= (λ l. Ok (h * 16 + l)))) ≡ Ok (unwrap_or o 16 * 16 + unwrap_or p 16)
    by_values None p high low = absurd (omega arith)
    by_values (Some h) None high low = absurd (omega arith)
    by_values (Some h) (Some l) high low = refl
