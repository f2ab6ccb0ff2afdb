-- What is allowed in a configuration, and hardly meant.
use Rattle.std.specs.Prelude.{ℕ, Bool, false, List, [], ◌∷◌, ◌==◌}
use Rattle.rk_conf.specs.declared.line.Line.{Line}
use Rattle.rk_conf.specs.declared.argument.Argument.{Argument}
use Rattle.rk_conf.specs.declared.argument.Argument.TheVariants.{Literal}
use Rattle.rk_conf.specs.Choice.{IsFor}

-- the first line is for the patterns of the other one, as texts
abbrev pub IsHiddenBy : Line → Line → Type 0
IsHiddenBy earlier line = IsFor earlier line.op line.typ line.desc line.callout

-- the first byte is a `#`
abbrev pub is_hash : List ℕ → Bool
is_hash [] = false
is_hash (b ∷ bs) = b == 35

-- the argument begins with `#`
abbrev pub begins_with_hash : Argument → Bool
begins_with_hash (Literal word) = is_hash word
begins_with_hash _ = false
