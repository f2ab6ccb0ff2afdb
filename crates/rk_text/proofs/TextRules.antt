-- Text: UTF-8 without a zero byte, and what is cut out of it at white space.
use Rattle.std.proofs.Common.{◌≡◌, ℕ, zero, suc, List, [], ◌∷◌, refl, take, drop, arith, Bool, true, false, ◌&&◌, ◌||◌, sym, subst, ◌∙◌, ap}
use Rattle.std.specs.Prelude.{nat_eq, not}
use Rattle.std.specs.List.{list_any, list_all}
use Rattle.std.specs.Str.{IsAscii, IsUtf8, is_utf8, IsCharBoundary}
use Rattle.std.proofs.Math.Bool.{and-true}
use Rattle.std.proofs.lemmas.Bool.{and_parts, and_from, and_right, or_parts, not-true, not_from_false, false_from_ne_true, ltb-true}
use Rattle.std.proofs.lemmas.Str.{IsUtf8-from_is_utf8, is_utf8-from_IsUtf8, IsUtf8-from_ascii, IsUtf8-take, IsUtf8-drop}
use Rattle.std.proofs.lemmas.List.{take-append-drop}
use Rattle.std.proofs.lemmas.List.Folds.{list_any-append}
use Rattle.rk_text.specs.Text.{is_text, is_plain}

plain_is_ascii : (bytes : List ℕ) → list_all is_plain bytes ≡ true → IsAscii bytes
plain_is_ascii [] h i = omega arith
plain_is_ascii (c ∷ cs) h zero = let p = and_parts _ _ h in let q = and_parts _ _ p.0 in ltb-true c 128 q.1
plain_is_ascii (c ∷ cs) h (suc i) = plain_is_ascii cs (and_parts _ _ h).1 i

no_zero : (bytes : List ℕ) → list_all is_plain bytes ≡ true → not (list_any (λ b. nat_eq b 0) bytes) ≡ true
no_zero [] h = refl
no_zero (c ∷ cs) h = let p = and_parts _ _ h in let q = and_parts _ _ p.0 in rw (not-true (nat_eq c 0) q.0) (no_zero cs p.1)

-- of UTF-8 the zero byte alone decides
pub is_text-utf8 : (bytes : List ℕ) → IsUtf8 bytes → not (list_any (λ b. nat_eq b 0) bytes) ≡ is_text bytes
unfolding is_text
is_text-utf8 bytes h =
    let no_zero = not (list_any (λ b. nat_eq b 0) bytes) in
    sym (and-true no_zero) ∙ ap (λ b. no_zero && b) (sym (is_utf8-from_IsUtf8 bytes h))

-- what is not UTF-8 is no text
pub is_text-not : (bytes : List ℕ) → ¬ (IsUtf8 bytes) → false ≡ is_text bytes
unfolding is_text
is_text-not bytes h = sym (and_right (not (list_any (λ b. nat_eq b 0) bytes)) (is_utf8 bytes) (false_from_ne_true (is_utf8 bytes) (λ e. h (IsUtf8-from_is_utf8 bytes e))))

-- bytes of ASCII other than zero are a text
pub is_text-plain : (bytes : List ℕ) → list_all is_plain bytes ≡ true → true ≡ is_text bytes
unfolding is_text
is_text-plain bytes h = sym (and_from _ _ (no_zero bytes h) (is_utf8-from_IsUtf8 bytes (IsUtf8-from_ascii bytes (plain_is_ascii bytes h))))

-- a front and a rest of a text that are cut at a character are texts
pub is_text-parts : (bytes : List ℕ) (n : ℕ) → (IsUtf8 bytes → IsCharBoundary bytes n) → is_text bytes ≡ true → (is_text (take n bytes) ≡ true) × (is_text (drop n bytes) ≡ true)
unfolding is_text
is_text-parts bytes n cut h =
    let p : ℕ → Bool = λ b. nat_eq b 0 in
    let parts = and_parts (not (list_any p bytes)) (is_utf8 bytes) h in
    let utf8 = IsUtf8-from_is_utf8 bytes parts.1 in
    let P : List ℕ → Type 0 = λ x. list_any p x ≡ false in
    let joined : (list_any p (take n bytes) || list_any p (drop n bytes)) ≡ false =
    rw (← list_any-append p (take n bytes) (drop n bytes)) (subst P (sym (take-append-drop n bytes)) (not-true _ parts.0)) in
    let none = or_parts (list_any p (take n bytes)) (list_any p (drop n bytes)) joined in (
      and_from _ _ (not_from_false _ none.0) (is_utf8-from_IsUtf8 (take n bytes) (IsUtf8-take bytes n utf8 (cut utf8))),
      and_from _ _ (not_from_false _ none.1) (is_utf8-from_IsUtf8 (drop n bytes) (IsUtf8-drop bytes n utf8 (cut utf8))),
    )

-- what is text is UTF-8
pub is_text-IsUtf8 : (bytes : List ℕ) → is_text bytes ≡ true → IsUtf8 bytes
unfolding is_text
is_text-IsUtf8 bytes h = IsUtf8-from_is_utf8 bytes ((and_parts (not (list_any (λ b. nat_eq b 0) bytes)) (is_utf8 bytes) h).1)
