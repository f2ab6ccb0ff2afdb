use Rattle.rk_rings.proofs.Words.{None, is_user_ring}
use Rattle.rk_rings.proofs.Changed.{by_test}
use Rattle.rk_rings.proofs.UserRings.{none_his}
use Rattle.rk_rings.proofs.rings.find_user_ring.Goals as goal

pub returns-in_err-find : goal.returns-in_err-find
returns-in_err-find c =
    rw c.from_residual.ensures (none_his c.args.rows.now.facts c.args.uid (by_test (is_user_ring c.args.uid) c.args.rows.now.facts None c.in_err-find.ensures))
