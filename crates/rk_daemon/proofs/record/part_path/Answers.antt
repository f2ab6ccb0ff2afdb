use Rattle.std.proofs.Common.{append_assoc}
use Rattle.rk_daemon.proofs.Keepings.{spelled}
use Rattle.rk_daemon.proofs.record.part_path.Goals as goal

pub returns : goal.returns
returns c =
    let made = rw (c.laid_out.ensures, c.number-hall.ensures) at c.format.ensures.ok in
    spelled c.format.result _ _ made (simp append_assoc)
