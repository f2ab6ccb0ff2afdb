-- Digits to the end of a line are its last field.
use Rattle.std.proofs.Common.{◌≡◌, ℕ, ◌-◌, ◌<◌, List, [], ◌∷◌, length, take, drop, Bool, true, false, ◌||◌, refl, sym, ap, ◌∙◌, arith, eqb-true}
use Rattle.std.proofs.lemmas.List.{length-take, length-drop}
use Rattle.std.proofs.lemmas.List.Elements.{All-weaker}
use Rattle.std.specs.Prelude.{nat_eq, Some, Ok, option_map}
use Rattle.std.specs.Result.{result_ok}
use Rattle.hex.specs.Hex.{decode_of, is_hex_digit}
use Rattle.hex.proofs.HexLemmas.{decode_of-ok}
use Rattle.rk_text.specs.declared.space.Space.TheVariants.{Blank}
use Rattle.rk_text.specs.Text.{is_space}
use Rattle.rk_text.proofs.Cuts.{one_field, no_bytes}
use Rattle.rk_replay.specs.Text.{fields_of}
use Rattle.rk_replay.specs.Values.{bytes_of}
use Rattle.rk_replay.specs.Fields.{first_as}

neither : (t u : Bool) → (t ≡ true → ⊥) → (u ≡ true → ⊥) → (t || u) ≡ false
neither true u h k = absurd (h refl)
neither false true h k = absurd (k refl)
neither false false h k = refl

differs : (b other : ℕ) → is_hex_digit other ≡ false → is_hex_digit b ≡ true → nat_eq b other ≡ true → ⊥
differs b other none some e = let same = sym some ∙ ap is_hex_digit (eqb-true b other e) ∙ none in cc

-- no digit is a space
digit_apart : (b : ℕ) → is_hex_digit b ≡ true → is_space Blank b ≡ false
digit_apart b h = neither (nat_eq b 32) (nat_eq b 9) (differs b 32 refl h) (differs b 9 refl h)

decoded : (digits bytes : List ℕ) → 0 < length digits → decode_of digits ≡ Ok bytes → bytes_of digits ≡ Some bytes
decoded [] bytes some ok = absurd (omega arith)
decoded (digit ∷ digits) bytes some ok = ap result_ok ok

-- what is digits to its end is one field, and says their bytes
pub all_digits : (digits bytes : List ℕ) → 0 < length digits → decode_of digits ≡ Ok bytes → first_as bytes_of (fields_of digits) ≡ Some (bytes, [])
all_digits digits bytes some ok =
    let apart = All-weaker (λ b. is_hex_digit b ≡ true) (λ b. is_space Blank b ≡ false) digit_apart digits (decode_of-ok digits bytes ok).1 in
    ap (first_as bytes_of) (one_field Blank digits some apart)
    ∙ ap (option_map (λ (x : List ℕ). (x, []))) (decoded digits bytes some ok)

-- and nothing is left behind it
pub none_behind : (digits : List ℕ) → fields_of (take (length digits - length digits) (drop (length digits) digits)) ≡ []
none_behind digits =
    no_bytes Blank (take (length digits - length digits) (drop (length digits) digits))
    (omega (arith, length-take (length digits - length digits) (drop (length digits) digits), length-drop (length digits) digits))
