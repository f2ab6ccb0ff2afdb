-- Numbers, as `parse` reads them.
use Rattle.std.proofs.Common.{◌≡◌, ℕ, zero, suc, ◌^◌, ◌<◌, ◌≤◌, List, [], ◌∷◌, get_or, Bool, true, false, ◌&&◌, refl, sym, ap, inl, inr, arith, rules}
use Rattle.std.proofs.Common.{Some, None, Ok, Err}
use Rattle.std.specs.Prelude.{nat_le}
use Rattle.std.specs.List.{list_all}
use Rattle.std.specs.Char.{is_ascii_digit}
use Rattle.std.specs.Str.{IsUtf8}
use Rattle.std.specs.Str.Parse.{digits_value, ParsesUnsigned}
use Rattle.std.proofs.lemmas.Str.{IsUtf8-from_ascii}
use Rattle.std.proofs.lemmas.Str.Parse.{IsNumeralModel, numerals_by_value, parse_digits}
use Rattle.std.proofs.lemmas.Bool.{cases_lt}
use Rattle.std.proofs.lemmas.Bool.Decides.{nat_tests}
use Rattle.rk_text.specs.Numbers.{number_of, up_to}

own : IsNumeralModel (λ ds. list_all is_ascii_digit ds ≡ true) (digits_value 10)
own = numerals_by_value _ (search rules)

-- ---- the tests that come before

-- bytes that are not all digits are no number
pub not_digits : (bytes : List ℕ) (limit : ℕ) → list_all is_ascii_digit bytes ≡ false → None ≡ up_to limit (number_of bytes)
unfolding number_of
not_digits [] limit h = refl
not_digits (b ∷ bs) limit h = rw h refl

digit_small : (c : ℕ) → is_ascii_digit c ≡ true → c < 128
digit_small c h = grind (arith, nat_tests)

both : (a b : Bool) → (a && b) ≡ true → (a ≡ true) × (b ≡ true)
both true b e = (refl, e)
both false b e = absurd (cc)

digits_small : (ds : List ℕ) → list_all is_ascii_digit ds ≡ true → (i : ℕ) → get_or ds i 0 < 128
digits_small [] h i = omega arith
digits_small (d ∷ ds) h zero = digit_small d ((both (is_ascii_digit d) (list_all is_ascii_digit ds) h).0)
digits_small (d ∷ ds) h (suc i) = digits_small ds ((both (is_ascii_digit d) (list_all is_ascii_digit ds) h).1) i

-- digits are UTF-8
pub digits_utf8 : (ds : List ℕ) → list_all is_ascii_digit ds ≡ true → IsUtf8 ds
digits_utf8 ds h = IsUtf8-from_ascii ds (digits_small ds h)

-- ---- the number

-- a number at most the limit is within it
pub up_to-le : (limit n : ℕ) → n ≤ limit → up_to limit (Some n) ≡ Some n
up_to-le limit n h = (let e : nat_le n limit ≡ true = grind (arith, nat_tests) in rw e refl)

-- a number above the limit is not within it
pub up_to-gt : (limit n : ℕ) → limit < n → up_to limit (Some n) ≡ None
up_to-gt limit n h = (let e : nat_le n limit ≡ false = grind (arith, nat_tests) in rw e refl)

-- digits that parse as a number are that number
pub parsed : (bytes : List ℕ) (n : ℕ) → list_all is_ascii_digit bytes ≡ true → ParsesUnsigned {E = ℕ} 64 10 bytes (Ok n) → number_of bytes ≡ Some n
unfolding number_of
parsed [] n h p = (let q = parse_digits own {E = ℕ} 64 [] (Ok n) p h in absurd (omega (arith, q.0.1)))
parsed (b ∷ bs) n h p = (let q = parse_digits own {E = ℕ} 64 (b ∷ bs) (Ok n) p h in rw h (ap Some (sym q.1)))

-- digits that don't parse are no number within a limit below 2^64
pub not_parsed : (E : Type 0) (bytes : List ℕ) (limit : ℕ) (e : E) → limit < 2 ^ 64 → list_all is_ascii_digit bytes ≡ true
    → ParsesUnsigned {E = E} 64 10 bytes (Err e) → None ≡ up_to limit (number_of bytes)
unfolding number_of
not_parsed E [] limit e small h p = refl
not_parsed E (b ∷ bs) limit e small h p =
    let q = parse_digits own {E = E} 64 (b ∷ bs) (Err e) p h in
    let big : limit < digits_value 10 (b ∷ bs) =
    elim (cases_lt limit (digits_value 10 (b ∷ bs))) [ inl lt ↦ lt | inr ge ↦ absurd (q (omega arith, omega arith)) ] in
    rw h (sym (up_to-gt limit (digits_value 10 (b ∷ bs)) big))
