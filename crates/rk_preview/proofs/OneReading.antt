-- The text of a command has one reading.
use Rattle.std.proofs.Common.{◌≡◌, ℕ, ◌/◌, ◌<◌, List, [], ◌∷◌, ◌++◌, Bool, true, false, refl, sym, ap, subst, ◌∙◌, arith, append_assoc}
use Rattle.std.specs.Prelude.{codes, decimal}
use Rattle.std.specs.List.{All, flat_map}
use Rattle.std.specs.Str.Parse.{AllDigits}
use Rattle.std.proofs.lemmas.Bool.{false≢true}
use Rattle.std.proofs.lemmas.Fmt.{decimal_injective, decimal_is_IsNumeral}
use Rattle.std.proofs.lemmas.List.{append_cancel_left}
use Rattle.std.proofs.lemmas.List.Concat.{flat_map-cons}
use Rattle.std.proofs.lemmas.List.Elements.{All-head, All-tail}
use Rattle.rk_preview.specs.Text.{is_shown, octal, byte_text, word_line, kind_text, command_text}
use Rattle.rk_preview.specs.Laws.{IsBytes, HasOneReading}

abbrev first : List ℕ → ℕ
first [] = 0
first (x ∷ xs) = x

abbrev others : List ℕ → List ℕ
others [] = []
others (x ∷ xs) = xs

-- ---- bytes

-- three octal digits tell a byte
from_octal : (a b : ℕ) → a < 256 → b < 256 → octal (a / 64) ≡ octal (b / 64) → octal (a / 8) ≡ octal (b / 8) → octal a ≡ octal b → a ≡ b
from_octal a b la lb h m l = omega arith

plain : (b : ℕ) → is_shown b ≡ true → byte_text b ≡ b ∷ []
plain b e = rw e refl

escaped : (b : ℕ) → is_shown b ≡ false → byte_text b ≡ 92 ∷ 48 ∷ octal (b / 64) ∷ octal (b / 8) ∷ octal b ∷ []
escaped b e = rw e refl

no_slash : (b : ℕ) → is_shown b ≡ true → b ≡ 92 → ⊥
no_slash b e h = false≢true (subst (λ (x : ℕ). is_shown x ≡ true) h e)

no_newline : (b : ℕ) → is_shown b ≡ true → b ≡ 10 → ⊥
no_newline b e h = false≢true (subst (λ (x : ℕ). is_shown x ≡ true) h e)

-- the first byte of a text and what follows it
byte_cut : (a b : ℕ) (s t : List ℕ) (p q : Bool) → is_shown a ≡ p → is_shown b ≡ q → a < 256 → b < 256 → byte_text a ++ s ≡ byte_text b ++ t
    → (a ≡ b) × (s ≡ t)
byte_cut a b s t true true ep eq la lb h = let k : a ∷ s ≡ b ∷ t = rw (plain a ep, plain b eq) at h in (ap first k, ap others k)
byte_cut a b s t true false ep eq la lb h = let k = rw (plain a ep, escaped b eq) at h in absurd (no_slash a ep (ap first k))
byte_cut a b s t false true ep eq la lb h = let k = rw (escaped a ep, plain b eq) at h in absurd (no_slash b eq (sym (ap first k)))
byte_cut a b s t false false ep eq la lb h =
    let k = rw (escaped a ep, escaped b eq) at h in (
      from_octal a b la lb (ap (λ l. first (others (others l))) k) (ap (λ l. first (others (others (others l)))) k)
          (ap (λ l. first (others (others (others (others l))))) k),
      ap (λ l. others (others (others (others (others l))))) k,
    )

byte_is_no_newline : (b : ℕ) (x t : List ℕ) (p : Bool) → is_shown b ≡ p → 10 ∷ x ≡ byte_text b ++ t → ⊥
byte_is_no_newline b x t true e h = let k : 10 ∷ x ≡ b ∷ t = rw (plain b e) at h in no_newline b e (sym (ap first k))
byte_is_no_newline b x t false e h = let k = rw (escaped b e) at h in let n : 10 ≡ 92 = ap first k in omega (arith, n)

-- ---- words

behind_byte : (b : ℕ) (w x : List ℕ) → flat_map byte_text (b ∷ w) ++ (10 ∷ x) ≡ byte_text b ++ (flat_map byte_text w ++ (10 ∷ x))
behind_byte b w x = rw (flat_map-cons byte_text b w) (append_assoc (byte_text b) (flat_map byte_text w) (10 ∷ x))

-- the first word of a text and what follows its newline
word_cut : (w v x y : List ℕ) → IsBytes w → IsBytes v → flat_map byte_text w ++ (10 ∷ x) ≡ flat_map byte_text v ++ (10 ∷ y) → (w ≡ v) × (x ≡ y)
word_cut [] [] x y p q h = (refl, ap others h)
word_cut [] (b ∷ v) x y p q h = absurd (byte_is_no_newline b x _ _ refl (h ∙ behind_byte b v y))
word_cut (a ∷ w) [] x y p q h = absurd (byte_is_no_newline a y _ _ refl (sym h ∙ behind_byte a w x))
word_cut (a ∷ w) (b ∷ v) x y p q h =
    let one = byte_cut a b _ _ _ _ refl refl (All-head (λ c. c < 256) a w p) (All-head (λ c. c < 256) b v q)
    (sym (behind_byte a w x) ∙ h ∙ behind_byte b v y) in
    let more = word_cut w v x y (All-tail (λ c. c < 256) a w p) (All-tail (λ c. c < 256) b v q) one.1 in
    (rw (one.0, more.0) refl, more.1)

line_of : (w r : List ℕ) → word_line w ++ r ≡ flat_map byte_text w ++ (10 ∷ r)
line_of w r = append_assoc (flat_map byte_text w) (10 ∷ []) r

behind_word : (w : List ℕ) (ws : List (List ℕ)) → flat_map word_line (w ∷ ws) ≡ flat_map byte_text w ++ (10 ∷ flat_map word_line ws)
behind_word w ws = flat_map-cons word_line w ws ∙ line_of w (flat_map word_line ws)

not_empty : (a x : List ℕ) → [] ≡ a ++ (10 ∷ x) → ⊥
not_empty [] x h = cc
not_empty (c ∷ a) x h = cc

words_cut : (ws vs : List (List ℕ)) → All IsBytes ws → All IsBytes vs → flat_map word_line ws ≡ flat_map word_line vs → ws ≡ vs
words_cut [] [] p q h = refl
words_cut [] (v ∷ vs) p q h = absurd (not_empty _ _ (h ∙ behind_word v vs))
words_cut (w ∷ ws) [] p q h = absurd (not_empty _ _ (sym h ∙ behind_word w ws))
words_cut (w ∷ ws) (v ∷ vs) p q h =
    let one = word_cut w v _ _ (All-head IsBytes w ws p) (All-head IsBytes v vs q) (sym (behind_word w ws) ∙ h ∙ behind_word v vs) in
    let more = words_cut ws vs (All-tail IsBytes w ws p) (All-tail IsBytes v vs q) one.1 in
    rw (one.0, more) refl

-- ---- the number and the kind

digits_cut : (a b x y : List ℕ) → AllDigits 10 a → AllDigits 10 b → a ++ (32 ∷ x) ≡ b ++ (32 ∷ y) → (a ≡ b) × (x ≡ y)
digits_cut [] [] x y p q h = (refl, ap others h)
digits_cut [] (d ∷ b) x y p q h = let e : 32 ≡ d = ap first h in let k = rw (← e) at q.0 in absurd (omega (arith, k))
digits_cut (c ∷ a) [] x y p q h = let e : c ≡ 32 = ap first h in let k = rw e at p.0 in absurd (omega (arith, k))
digits_cut (c ∷ a) (d ∷ b) x y p q h =
    let e : c ≡ d = ap first h in
    let more = digits_cut a b x y p.1 q.1 (ap others h) in
    (rw (e, more.0) refl, more.1)

kind_cut : (p q : Bool) (x y : List ℕ) → kind_text p ++ (10 ∷ x) ≡ kind_text q ++ (10 ∷ y) → (p ≡ q) × (x ≡ y)
kind_cut true true x y h = (refl, ap others (append_cancel_left (codes "piped") (10 ∷ x) (10 ∷ y) h))
kind_cut false false x y h = (refl, ap others (append_cancel_left (codes "plain") (10 ∷ x) (10 ∷ y) h))
kind_cut true false x y h = let e : 105 ≡ 108 = ap (λ l. first (others l)) h in absurd (omega (arith, e))
kind_cut false true x y h = let e : 108 ≡ 105 = ap (λ l. first (others l)) h in absurd (omega (arith, e))

nested : (a d s k e f n r : List ℕ) → a ++ d ++ s ++ k ++ e ++ (f ++ n) ++ r ≡ a ++ (d ++ (s ++ (k ++ (e ++ (f ++ (n ++ r))))))
nested a d s k e f n r =
    rw (
      append_assoc (a ++ d ++ s ++ k ++ e) (f ++ n) r,
      append_assoc f n r,
      append_assoc (a ++ d ++ s ++ k) e _,
      append_assoc (a ++ d ++ s) k _,
      append_assoc (a ++ d) s _,
      append_assoc a d _,
    ) refl

-- a text by its parts
parts : (n : ℕ) (p : Bool) (path : List ℕ) (words : List (List ℕ)) → command_text n p path words
    ≡ codes "line " ++ (decimal n ++ (32 ∷ (kind_text p ++ (10 ∷ (flat_map byte_text path ++ (10 ∷ flat_map word_line words))))))
parts n p path words =
    nested (codes "line ") (decimal n) (codes " ") (kind_text p) (codes "\n") (flat_map byte_text path) (codes "\n") (flat_map word_line words)

-- two commands with one text are one
pub one_reading : HasOneReading
one_reading n m p q path path' words words' ln lm bp bp' bw bw' h =
    let a = append_cancel_left (codes "line ") _ _ (sym (parts n p path words) ∙ h ∙ parts m q path' words') in
    let numbers = digits_cut _ _ _ _ (decimal_is_IsNumeral n ln).0.1 (decimal_is_IsNumeral m lm).0.1 a in
    let kinds = kind_cut p q _ _ numbers.1 in
    let paths = word_cut path path' _ _ bp bp' kinds.1 in
    (decimal_injective n m ln lm numbers.0, kinds.0, paths.0, words_cut words words' bw bw' paths.1)
