-- Words of a request where an option may stand.
use Rattle.std.specs.Prelude.{ℕ, Bool, false, List, [], ◌∷◌, ◌==◌, codes, Option, Some, None, if◌then◌else◌}
use Rattle.std.specs.Str.{bytes_eq}
use Rattle.rk_conf.specs.declared.line.Line.{Line}
use Rattle.rk_conf.specs.declared.argument.Argument.{Argument}
use Rattle.rk_conf.specs.declared.argument.Argument.TheVariants as argument
use Rattle.rk_preview.specs.declared.exposure.Foreign.{Foreign}
use Rattle.rk_preview.specs.declared.exposure.Foreign.TheVariants as foreign

-- the pattern begins with `*`, so that what fits it may begin with anything
abbrev pub is_open : List ℕ → Bool
is_open [] = false
is_open (b ∷ bs) = b == 42

-- the argument is `--`, after which a program takes no options
abbrev pub is_dashes : Argument → Bool
is_dashes (argument.Literal word) = bytes_eq word (codes "--")
is_dashes _ = false

-- the text of the request that an argument is, if that may begin with anything
abbrev pub taken_for : Line → Argument → Option Foreign
taken_for line argument.Type = if is_open line.typ then Some foreign.Type else None
taken_for line argument.Description = if is_open line.desc then Some foreign.Description else None
taken_for line argument.Callout = if is_open line.callout then Some foreign.Callout else None
taken_for line _ = None

-- the first, or else the second
abbrev pub or_else : Option Foreign → Option Foreign → Option Foreign
or_else (Some f) other = Some f
or_else None other = other

-- the first such text among arguments, of those before the first `--`
abbrev pub exposed_in : Line → List Argument → Option Foreign
exposed_in line [] = None
exposed_in line (a ∷ more) = if is_dashes a then None else or_else (taken_for line a) (exposed_in line more)
