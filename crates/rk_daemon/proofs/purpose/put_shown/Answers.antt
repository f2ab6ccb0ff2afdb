use Rattle.std.proofs.Common.{◌≤◌, length, arith, sym}
use Rattle.std.proofs.lemmas.List.{length-take-le}
use Rattle.rk_daemon.proofs.purpose.put_shown.Goals as goal

pub slice_bounds-front-end : goal.slice_bounds-front-end
slice_bounds-front-end c = let within : 128 ≤ length c.args.bytes.now = omega arith in sym (length-take-le 128 c.args.bytes.now within)
