-- One line more of a script is cut off and played.
use Rattle.rk_replay.proofs.Words.{◌≡◌, ◌+◌, Some, None, ap, length, ℕ, List, [], map, arith, ◌∷◌, Option, ◌<◌, ◌^◌, IfSome, suc, Result, Ok, Err, MatchOption}
use Rattle.rk_replay.proofs.Words.{OnOk, lines_of, readings_left, bytes_left, bytes_from, reading_of, First}
use Rattle.std.specs.Borrow.{Bor}

-- a line that is cut off is read, and then the lines after it
pub line_cut : (text line : List ℕ) (after : Option (Bor (List ℕ)))
    → MatchOption after (lines_of text ≡ line ∷ []) (λ rest. lines_of text ≡ line ∷ lines_of rest.now)
    → map reading_of (lines_of text) ≡ reading_of line ∷ readings_left after
line_cut text line None e = ap (map reading_of) e
line_cut text line (Some rest) e = ap (map reading_of) e

-- the number of the next line and the bytes that are left fit in 64 bits together
pub number_fits : (text : List ℕ) (after : Option (Bor (List ℕ))) (number : ℕ) → IfSome after (λ rest. length rest.now < length text)
    → number + suc (length text) < 2 ^ 64 → number + 1 + bytes_left after < 2 ^ 64
number_fits text None number shorter few = omega arith
number_fits text (Some rest) number shorter few = omega arith

-- the number of the line after the first happening and the bytes after it fit in 64 bits together
pub number_follows : (number : ℕ) (first : First) → number + bytes_from (Some first) < 2 ^ 64 → number + 1 + bytes_left first.rest < 2 ^ 64
number_follows number first few = omega arith

-- what follows from a fact under an `Ok`
pub on_ok_then : {T E : Type 0} (r : Result T E) {P Q : Type 0} → (P → Q) → OnOk r P → OnOk r Q
on_ok_then (Ok x) f p = f p
on_ok_then (Err e) f p = tt
