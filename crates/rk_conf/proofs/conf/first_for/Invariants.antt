use Rattle.std.proofs.Common.{take}
use Rattle.rk_conf.specs.Choice.{NoneFor}
use Rattle.rk_conf.proofs.conf.first_for.Given as goal

abbrev pub invariant-loop-line : goal.invariant-loop-line
invariant-loop-line l = NoneFor (take l.line-index l.lines) l.op l.typ l.desc l.callout
