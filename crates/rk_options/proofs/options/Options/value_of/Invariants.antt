use Rattle.std.proofs.Common.{◌≡◌, length, map}
use Rattle.std.specs.Prelude.{option_map, string_bytes}
use Rattle.rk_options.specs.Options.{options_of, value_in}
use Rattle.rk_options.specs.Said.{said_by}
use Rattle.rk_options.proofs.OptionsOfWords.{with_found}
use Rattle.rk_options.proofs.options.Options.value_of.Given as goal

abbrev pub invariant-each : goal.invariant-each
invariant-each l = value_in l.name (said_by l.self)
    ≡ with_found (option_map (λ s. s.now) l.found) (value_in l.name (options_of (map (λ s. s.now) l.self.flags.now) (map string_bytes l.rest)))

abbrev pub decreases-each : goal.decreases-each
decreases-each l = length l.rest
