-- The op that the table's lines say is the one whose word it is.
use Rattle.std.proofs.Common.{◌≡◌, ℕ, Bool, true, false, cond, List, [], ◌∷◌, Option, Some, refl, ap}
use Rattle.std.proofs.lemmas.Slice.Eq.{bytes_eq-Decides}
use Rattle.std.specs.Prelude.{map, find, option_map, IfSome}
use Rattle.std.specs.Str.{bytes_eq, str_to_ascii_lowercase}
use Rattle.rk_message.specs.declared.shape.Op.{Op}
use Rattle.rk_message.specs.declared.shape.FieldKind.{FieldKind}
use Rattle.rk_message.specs.declared.shape.AskShape.{AskShape}
use Rattle.rk_message.specs.Table.{ops, ask_line, line_of}
use Rattle.rk_client.specs.Words.{op_word, op_said}

abbrev paired : Op → Op × (ℕ × List ℕ × List FieldKind)
paired o = (o, ask_line o)

abbrev pub op_of : AskShape → Op
op_of line = line.op

-- the line's name is the word
abbrev pub is_named : List ℕ → AskShape → Bool
is_named word line = bytes_eq word (str_to_ascii_lowercase line.name.now)

both : (b c : Bool) (line : AskShape) (o : Op) (rest : Option AskShape) (others : Option Op) → b ≡ c → line.op ≡ o → option_map op_of rest ≡ others
    → option_map op_of (cond b (Some line) rest) ≡ cond c (Some o) others
both true true line o rest others e same later = ap Some same
both false false line o rest others e same later = later
both true false line o rest others e same later = absurd cc
both false true line o rest others e same later = absurd cc

found : (lines : List AskShape) (os : List Op) (word : List ℕ) → map line_of lines ≡ map paired os
    → option_map op_of (find (is_named word) lines) ≡ find (λ o. bytes_eq word (op_word o)) os
found [] [] word e = refl
found [] (o ∷ os) word e = absurd cc
found (line ∷ lines) [] word e = absurd cc
found (line ∷ lines) (o ∷ os) word e =
    let first : line_of line ≡ paired o = cc in
    let later : map line_of lines ≡ map paired os = cc in
    both (is_named word line) (bytes_eq word (op_word o)) line o _ _ (ap (λ p. bytes_eq word (str_to_ascii_lowercase p.1.1)) first) (ap (λ p. p.0) first)
    (found lines os word later)

-- the op of the first line with the word
pub op_found : (lines : List AskShape) (word : List ℕ) → map line_of lines ≡ map paired ops → option_map op_of (find (is_named word) lines) ≡ op_said word
op_found lines word e = found lines ops word e

has_word_step : (word : List ℕ) (o : Op) (b : Bool) (others : Option Op) → (b ≡ true → word ≡ op_word o) → IfSome others (λ p. word ≡ op_word p)
    → IfSome (cond b (Some o) others) (λ p. word ≡ op_word p)
has_word_step word o true others is later = is refl
has_word_step word o false others is later = later

has_word : (os : List Op) (word : List ℕ) → IfSome (find (λ o. bytes_eq word (op_word o)) os) (λ p. word ≡ op_word p)
has_word [] word = tt
has_word (o ∷ os) word = has_word_step word o (bytes_eq word (op_word o)) _ (λ e. (bytes_eq-Decides word (op_word o)).0 e) (has_word os word)

-- the op that a word says has that word
pub word_of : (word : List ℕ) → IfSome (op_said word) (λ p. word ≡ op_word p)
word_of word = has_word ops word
