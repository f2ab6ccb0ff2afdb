-- What the values of options say.
use Rattle.std.specs.Prelude.{ℕ, List, Option, Some, None}
use Rattle.std.specs.Option.{option_and_then, option_flatten}
use Rattle.rk_text.specs.Numbers.{number_of, up_to}
use Rattle.rk_options.specs.Options.{Given, value_in}

-- a number up to a limit
abbrev pub number_up_to : ℕ → List ℕ → Option ℕ
number_up_to limit bytes = up_to limit (number_of bytes)

-- the value that options have to give a name
abbrev pub path_in : List ℕ → Option (List Given) → Option (List ℕ)
path_in name options = option_flatten (value_in name options)

-- what a value says, or the default if there is none
abbrev pub or_default : ℕ → (List ℕ → Option ℕ) → Option (List ℕ) → Option ℕ
or_default default said None = Some default
or_default default said (Some value) = said value

-- the number that options give a name, or the default
abbrev pub number_in : List ℕ → ℕ → (List ℕ → Option ℕ) → Option (List Given) → Option ℕ
number_in name default said options = option_and_then (or_default default said) (value_in name options)
