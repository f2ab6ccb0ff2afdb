use Rattle.rk_record.proofs.Runs.{sound_none}
use Rattle.rk_record.proofs.hall.Hall.new.Goals as goal

pub invariant_of-result : goal.invariant_of-result
invariant_of-result c =
    let l = c.args.limits in
    rw (c.of-opening.ensures, c.in_ok-book.ensures, c.new-2.ensures) (sound_none l.negative l.first l.stride c.args.steps c.requires.steps.1)
