use Rattle.std.proofs.Common.{◌≡◌, map, take}
use Rattle.std.specs.Prelude.{string_bytes}
use Rattle.rk_ctl.proofs.asking.bytes_of.Given as goal

abbrev pub invariant-loop-argument : goal.invariant-loop-argument
invariant-loop-argument l = map (λ s. s.now) l.bytes.items ≡ map string_bytes (take l.argument-index l.fn.arguments)
