-- The words of a line.
use Rattle.std.specs.Prelude.{ℕ, List, Option, Some, None}
use Rattle.rk_conf.specs.declared.argument.Argument.{Argument}
use Rattle.rk_conf.specs.declared.argument.Argument.TheVariants.{Literal}

-- the word that an argument is; a macro is none that is known before a request
abbrev pub known_word : Argument → Option (List ℕ)
known_word (Literal word) = Some word
known_word _ = None
