-- How the numbers of names are hashed.
use Rattle.std.specs.Prelude.{ℕ, ◌+◌, ◌*◌, ◌%◌, ◌^◌}

-- the last 64 bits that were written, with one more byte
abbrev pub byte_more : ℕ → ℕ → ℕ
byte_more n byte = ((n * 256) % 2 ^ 64 + byte) % 2 ^ 64

-- the number times an odd constant, the fraction of the golden ratio in 64 bits
abbrev pub spread : ℕ → ℕ
spread n = (n * 0x9e3779b97f4a7c15) % 2 ^ 64
