-- The bytes of a description or a callout, and the memory that a copy of them takes.
use Rattle.std.specs.Prelude.{ℕ, ◌≡◌, ◌≤◌, List, length, Option, Some, None}
use Rattle.rk_names.specs.declared.name_bytes.Held.{Held}
use Rattle.rk_names.specs.declared.name_bytes.Held.TheVariants as held

-- how many bytes of a description stand in its value
abbrev pub in_description : ℕ
in_description = 30

-- how many of a callout
abbrev pub in_callout : ℕ
in_callout = 22

-- what was copied of a description or a callout before its copy is made: all of it, or nothing where it has at most as many bytes as stand in the value
abbrev pub IsLongOf : ℕ → Option (List ℕ) → List ℕ → Type 0
IsLongOf few None bytes = length bytes ≤ few
IsLongOf few (Some copy) bytes = copy ≡ bytes

-- the bytes of a description or a callout, wherever they lie
abbrev pub held_bytes : {few : ℕ} → Held few → List ℕ
held_bytes (held.Few few) = few
held_bytes (held.Many many) = many
