-- Permission bits, as `from_str_radix` reads them.
use Rattle.std.proofs.Common.{◌≡◌, ◌≢◌, ℕ, ◌<◌, ◌≤◌, List, [], ◌∷◌, Bool, true, false, ◌&&◌, refl, sym, ap, ◌∙◌, inl, inr, arith}
use Rattle.std.proofs.Common.{Some, None, Ok, Err}
use Rattle.std.specs.Prelude.{nat_le}
use Rattle.std.specs.List.{list_all}
use Rattle.std.specs.Str.Parse.{AllDigits, digits_value, ParsesUnsigned, without_leading_plus}
use Rattle.std.specs.Char.{digit_value}
use Rattle.std.proofs.lemmas.Str.Parse.{without_leading_plus_none}
use Rattle.std.proofs.lemmas.Bool.{cases_lt}
use Rattle.std.proofs.lemmas.Bool.Decides.{nat_tests}
use Rattle.rk_daemon.specs.Settings.{is_octal_digit, octal_said, permissions_said}

-- ---- octal digits are digits, and no sign

both : (a b : Bool) → (a && b) ≡ true → (a ≡ true) × (b ≡ true)
both true b e = (refl, e)
both false b e = absurd (cc)

small : (c : ℕ) → is_octal_digit c ≡ true → digit_value c < 8
small c h = grind (arith, nat_tests)

no_plus : (c : ℕ) → is_octal_digit c ≡ true → c ≢ 43
no_plus c h = grind (arith, nat_tests)

digits : (ds : List ℕ) → list_all is_octal_digit ds ≡ true → AllDigits 8 ds
digits [] h = tt
digits (d ∷ ds) h = let b = both (is_octal_digit d) (list_all is_octal_digit ds) h in (small d b.0, digits ds b.1)

plain : (ds : List ℕ) → list_all is_octal_digit ds ≡ true → without_leading_plus ds ≡ ds
plain [] h = refl
plain (d ∷ ds) h = without_leading_plus_none (d ∷ ds) (no_plus d ((both (is_octal_digit d) (list_all is_octal_digit ds) h).0))

-- ---- what they say

said : (d : ℕ) (ds : List ℕ) → list_all is_octal_digit (d ∷ ds) ≡ true → octal_said (d ∷ ds) ≡ Some (digits_value 8 (d ∷ ds))
unfolding octal_said
said d ds h = rw h refl

within : (word : List ℕ) (v : ℕ) → octal_said word ≡ Some v → v ≤ 511 → permissions_said word ≡ Some v
within word v e l = let t : nat_le v 511 ≡ true = grind (arith, nat_tests) in rw (e, t) refl

above : (word : List ℕ) (v : ℕ) → octal_said word ≡ Some v → 511 < v → permissions_said word ≡ None
above word v e l = let t : nat_le v 511 ≡ false = grind (arith, nat_tests) in rw (e, t) refl

-- what has another digit than 0 to 7 says no permissions
pub not_octal : (word : List ℕ) → list_all is_octal_digit word ≡ false → None ≡ permissions_said word
unfolding octal_said
not_octal [] h = refl
not_octal (b ∷ bs) h = rw h refl

read : (word : List ℕ) (n : ℕ) → list_all is_octal_digit word ≡ true → ParsesUnsigned {E = ℕ} 32 8 word (Ok n) → octal_said word ≡ Some n
read [] n h p = absurd (omega (arith, p.0.0.0))
read (b ∷ bs) n h p = let e = rw (plain (b ∷ bs) h) at p.1 in said b bs h ∙ ap Some (sym e)

-- octal digits whose number is at most 511 say these permissions
pub permitted : (word : List ℕ) (n : ℕ) → list_all is_octal_digit word ≡ true → ParsesUnsigned {E = ℕ} 32 8 word (Ok n) → n ≤ 511
    → Some n ≡ permissions_said word
permitted word n h p l = sym (within word n (read word n h p) l)

-- octal digits whose number is greater say none
pub too_large : (word : List ℕ) (n : ℕ) → list_all is_octal_digit word ≡ true → ParsesUnsigned {E = ℕ} 32 8 word (Ok n) → 511 < n
    → None ≡ permissions_said word
too_large word n h p l = sym (above word n (read word n h p) l)

-- digits that say no number of 32 bits say none up to 511
pub not_parsed : (word : List ℕ) → list_all is_octal_digit word ≡ true → ParsesUnsigned {E = ℕ} 32 8 word (Err 0)
    → None ≡ permissions_said word
unfolding octal_said
not_parsed [] h p = refl
not_parsed (b ∷ bs) h p =
    let q = rw (plain (b ∷ bs) h) at p in
    let big : 511 < digits_value 8 (b ∷ bs) =
    elim (cases_lt 511 (digits_value 8 (b ∷ bs))) [ inl lt ↦ lt | inr ge ↦ absurd (q ((omega arith, digits (b ∷ bs) h), omega arith)) ] in
    sym (above (b ∷ bs) (digits_value 8 (b ∷ bs)) (said b bs h) big)
