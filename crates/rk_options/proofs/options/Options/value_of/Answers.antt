use Rattle.std.proofs.Common.{sym, ◌∙◌}
use Rattle.rk_options.specs.Options.{values_of}
use Rattle.rk_options.proofs.OptionsOfWords.{behind, given_up, at_the_end}
use Rattle.rk_options.proofs.options.Options.value_of.Goals as goal

pub returns-in_err-found : goal.returns-in_err-found
returns-in_err-found c =
    let o = rw c.in-Some.is at c.in_ok-option.ensures.option in
    rw c.from_residual-in_err-found.ensures (given_up _ _ _ _ _ _ c.each.invariant o c.in_err-found.ensures)

pub each-preserved : goal.each-preserved
each-preserved c =
    let o = rw c.in-Some.is at c.in_ok-option.ensures.option in
    behind _ _ _ _ _ _ c.each.invariant o _ c.in_ok-found.ensures

pub returns : goal.returns
unfolding values_of
returns c =
    let o = rw c.in_default.is at c.in_ok-option.ensures.option in
    sym (c.each.invariant ∙ rw o (at_the_end _))
