-- The options that words say, by the names that are flags.
use Rattle.std.specs.Prelude.{List, Option, map, string_bytes}
use Rattle.rk_options.specs.declared.options.Options.{Options}
use Rattle.rk_options.specs.Options as options
use Rattle.rk_options.specs.Options.{Given}

-- the options that these words say, `None` if they say none
abbrev pub said_by : Options → Option (List Given)
said_by o = options.options_of (map (λ s. s.now) o.flags.now) (map string_bytes o.words.now)
