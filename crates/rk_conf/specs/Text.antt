-- Which lines of a configuration say something, and the fields of a line.
use Rattle.std.specs.Prelude.{ℕ, List, [], ◌∷◌, Bool, true, not, filter}
use Rattle.std.specs.List.{enumerate_from}
use Rattle.rk_text.specs.declared.space.Space.TheVariants as space
use Rattle.rk_text.specs.Text as text
use Rattle.rk_text.specs.Text.{begins_with, lines_of}

-- the fields of a line stand between any white space
abbrev pub fields_of : List ℕ → List (List ℕ)
fields_of line = text.fields_of space.Any line

-- a blank line, or one whose first byte after white space is `#`
abbrev pub is_comment : List (List ℕ) → Bool
is_comment [] = true
is_comment (field ∷ fields) = begins_with 35 field

-- the lines that are neither blank nor a comment, each with its number, from n on; the others are counted and not read
abbrev pub numbered_from : ℕ → List ℕ → List (ℕ × List ℕ)
numbered_from n text = filter (λ l. not (is_comment (fields_of l.1))) (enumerate_from n (lines_of text))

-- the same of a whole text, from 1 on
abbrev pub numbered_lines : List ℕ → List (ℕ × List ℕ)
numbered_lines text = numbered_from 1 text
