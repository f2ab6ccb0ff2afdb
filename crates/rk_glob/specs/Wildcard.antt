-- Patterns of a configuration line: text in which each `*` stands for any run of bytes.
use Rattle.std.specs.Prelude.{◌≢◌, ℕ, List, ◌∷◌, ◌++◌}
use Rattle.std.specs.List.{All}

-- the byte `*`
abbrev pub star : ℕ
star = 42

-- no byte of it is `*`
abbrev pub IsPlain : List ℕ → Type 0
IsPlain bytes = All (λ b. b ≢ star) bytes

-- a pattern without `*` fits itself; up to its first `*` a pattern stands for itself, the `*` stands for any run u, and the rest fits what follows
pub data Fits : List ℕ → List ℕ → Type 0 where
  plain : (a : List ℕ) → IsPlain a → Fits a a
  starred : (a b u v : List ℕ) → IsPlain a → Fits b v → Fits (a ++ star ∷ b) (a ++ u ++ v)
