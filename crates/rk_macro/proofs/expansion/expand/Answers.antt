use Rattle.std.proofs.Common.{List, subst}
use Rattle.std.specs.Fn.{FnReturnsAt}
use Rattle.rk_conf.specs.declared.argument.Argument.{Argument}
use Rattle.rk_macro.specs.declared.fault.ExpandFault.TheVariants.{NoMemory}
use Rattle.rk_macro.specs.Lookup.{answers_of}
use Rattle.rk_macro.specs.Expansion.{FailsAt}
use Rattle.rk_macro.proofs.Failures.{fails_behind}
use Rattle.rk_macro.proofs.expansion.expand.Goals as goal

pub returns-clause-err : goal.returns-clause-err
returns-clause-err g c =
    let look = answers_of (FnReturnsAt g.F.Fn c.args.lookup) in
    let P : List Argument → Type 0 = λ arguments. FailsAt look c.args.subject.now arguments NoMemory in
    subst P c.as_slice.ensures (fails_behind look c.args.subject.now c.as_slice.result.now c.in-Ok.words c.in-Ok.ensures.words c.in-Ok.ensures.short)
