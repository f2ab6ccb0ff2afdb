use Rattle.std.proofs.Common.{List, arith, subst}
use Rattle.std.proofs.lemmas.List.{take_all}
use Rattle.rk_conf.specs.declared.line.Line.{Line}
use Rattle.rk_conf.specs.Choice.{NoneFor}
use Rattle.rk_conf.proofs.Choices.{at_item}
use Rattle.rk_conf.proofs.conf.first_for.Goals as goal

pub returns-then-is_for : goal.returns-then-is_for
returns-then-is_for c = (_, _, at_item c.args.lines.now c.loop-line.line-index c.line-item.result (omega arith) c.line-item.is, c.is_for.ensures.0 c.if-is_for.true, c.loop-line.invariant)

pub returns : goal.returns
returns c =
    let op = c.args.op.now in
    let typ = c.args.typ.now in
    let desc = c.args.desc.now in
    let callout = c.args.callout.now in
    subst (λ (ls : List Line). NoneFor ls op typ desc callout) (take_all c.loop-line.line-index c.args.lines.now c.loop-line-test.false) c.loop-line.invariant
