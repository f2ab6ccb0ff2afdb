-- The text of a command.
use Rattle.std.specs.Prelude.{ℕ, ◌+◌, ◌/◌, ◌%◌, List, [], ◌∷◌, ◌++◌, codes, decimal, Bool, true, false, ◌&&◌, not, ◌==◌, nat_le, if◌then◌else◌}
use Rattle.std.specs.List.{flat_map}

-- a byte other than control bytes and the backslash
abbrev pub is_shown : ℕ → Bool
is_shown b = nat_le 32 b && not (b == 92) && not (b == 127)

-- an octal digit
abbrev pub octal : ℕ → ℕ
octal n = 48 + n % 8

-- a byte of a word: itself, or `\0` and its three octal digits, which the %b of printf(1) reads
abbrev pub byte_text : ℕ → List ℕ
byte_text b = if is_shown b then b ∷ [] else 92 ∷ 48 ∷ octal (b / 64) ∷ octal (b / 8) ∷ octal b ∷ []

-- a word in a line of its own
abbrev pub word_line : List ℕ → List ℕ
word_line word = flat_map byte_text word ++ codes "\n"

-- whether the output of a command is the payload, or it asks for itself: request-key.conf(5), "|"
abbrev pub kind_text : Bool → List ℕ
kind_text true = codes "piped"
kind_text false = codes "plain"

-- the number of a line, and the kind of its command
abbrev pub head_text : ℕ → Bool → List ℕ
head_text number piped = codes "line " ++ decimal number ++ codes " " ++ kind_text piped ++ codes "\n"

-- a command of the line of this number: that and its kind, then its path and its words, each in a line of its own
abbrev pub command_text : ℕ → Bool → List ℕ → List (List ℕ) → List ℕ
command_text number piped path words = head_text number piped ++ word_line path ++ flat_map word_line words

-- how many lines name a program
abbrev pub count_text : ℕ → List ℕ
count_text n = codes "ok, " ++ decimal n ++ (if n == 1 then codes " line\n" else codes " lines\n")
