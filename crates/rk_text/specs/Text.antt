-- What text is, and how it is cut into lines, and a line into fields.
use Rattle.std.specs.Prelude.{ℕ, List, [], ◌∷◌, Bool, true, false, not, ◌&&◌, ◌||◌, ◌==◌, filter, drop, nat_eq, nat_lt}
use Rattle.std.specs.List.{slice_split, prefix_len, list_any}
use Rattle.std.specs.Str.{is_utf8}
use Rattle.rk_text.specs.declared.space.Space.{Space}
use Rattle.rk_text.specs.declared.space.Space.TheVariants.{Blank, Any}

-- UTF-8 without a zero byte: what a C string of text can hold
unfoldable pub is_text : List ℕ → Bool
is_text bytes = not (list_any (λ b. nat_eq b 0) bytes) && is_utf8 bytes

-- a byte of ASCII other than zero
abbrev pub is_plain : ℕ → Bool
is_plain b = not (b == 0) && nat_lt b 128

-- the first byte is this one
abbrev pub begins_with : ℕ → List ℕ → Bool
begins_with b [] = false
begins_with b (x ∷ xs) = x == b

-- there is a first byte
abbrev pub has_bytes : List ℕ → Bool
has_bytes [] = false
has_bytes (x ∷ xs) = true

-- space or tab; any white space is also vertical tab, form feed or carriage return
abbrev pub is_space : Space → ℕ → Bool
is_space Blank b = b == 32 || b == 9
is_space Any b = b == 32 || b == 9 || b == 11 || b == 12 || b == 13

-- what stands between the newlines
abbrev pub lines_of : List ℕ → List (List ℕ)
lines_of text = slice_split (λ b. b == 10) text

-- what follows leading white space
abbrev pub past_space : Space → List ℕ → List ℕ
past_space space line = drop (prefix_len (is_space space) line) line

-- what stands between the white space
unfoldable pub fields_of : Space → List ℕ → List (List ℕ)
fields_of space line = filter has_bytes (slice_split (is_space space) line)
