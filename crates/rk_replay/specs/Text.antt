-- The fields of a script line. A script is cut into lines as a configuration is.
use Rattle.std.specs.Prelude.{ℕ, List}
use Rattle.rk_text.specs.declared.space.Space.TheVariants as space
use Rattle.rk_text.specs.Text as text

-- what follows leading spaces and tabs
abbrev pub past_space : List ℕ → List ℕ
past_space line = text.past_space space.Blank line

-- the fields of a line stand between spaces and tabs
abbrev pub fields_of : List ℕ → List (List ℕ)
fields_of line = text.fields_of space.Blank line
