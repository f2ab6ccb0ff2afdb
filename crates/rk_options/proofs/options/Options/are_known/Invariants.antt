use Rattle.std.proofs.Common.{◌≡◌, length, map}
use Rattle.std.specs.Prelude.{string_bytes}
use Rattle.rk_options.specs.Options.{all_named, is_among, options_of}
use Rattle.rk_options.specs.Said.{said_by}
use Rattle.rk_options.proofs.options.Options.are_known.Given as goal

abbrev pub invariant-each : goal.invariant-each
invariant-each l = all_named (is_among (map (λ s. s.now) l.names)) (said_by l.self)
    ≡ all_named (is_among (map (λ s. s.now) l.names)) (options_of (map (λ s. s.now) l.self.flags.now) (map string_bytes l.rest))

abbrev pub decreases-each : goal.decreases-each
decreases-each l = length l.rest
