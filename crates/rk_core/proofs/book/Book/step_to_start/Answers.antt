use Rattle.rk_core.proofs.Words.{sym, subst, Past, Run, continues}
use Rattle.rk_core.proofs.Stepping.StepsKeepSound.{step_sound}
use Rattle.rk_core.proofs.book.Book.step_to_start.Goals as goal

pub invariant_of-self : goal.invariant_of-self
invariant_of-self c = step_sound c.self.inside.tables c.args.now c.args.event c.step.result c.step.new.self c.step.ensures.step c.self.invariant

pub returns-clause-laws : goal.returns-clause-laws
returns-clause-laws c = λ from past run.
    let s : Past = record { now = c.args.now; event = c.args.event; answer = c.step.result } in
    continues from past c.self.inside.tables c.step.new.self s (subst (Run from past) (sym c.self.view_is) run) c.step.ensures.step
