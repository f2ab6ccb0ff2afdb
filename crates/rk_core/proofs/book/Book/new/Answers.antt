use Rattle.rk_core.proofs.Stepping.StepsKeepSound.{empty_sound}
use Rattle.rk_core.proofs.book.Book.new.Goals as goal

pub invariant_of-result : goal.invariant_of-result
invariant_of-result c = empty_sound c.args.limits.negative c.args.limits.first c.args.limits.stride c.in_ok-new.field-0 c.in_ok-new.ensures
