-- The text of a command has one reading.
use Rattle.std.specs.Prelude.{◌≡◌, ℕ, ◌<◌, ◌^◌, List, Bool}
use Rattle.std.specs.List.{All}
use Rattle.rk_preview.specs.Text.{command_text}

-- a word as it is in a program
abbrev pub IsBytes : List ℕ → Type 0
IsBytes word = All (λ b. b < 256) word

-- two commands with the same text are the same
abbrev pub HasOneReading : Type 0
HasOneReading = (number other : ℕ) (piped other_piped : Bool) (path other_path : List ℕ) (words other_words : List (List ℕ))
    → number < 2 ^ 64 → other < 2 ^ 64 → IsBytes path → IsBytes other_path → All IsBytes words → All IsBytes other_words
    → command_text number piped path words ≡ command_text other other_piped other_path other_words
    → (number ≡ other) × (piped ≡ other_piped) × (path ≡ other_path) × (words ≡ other_words)
