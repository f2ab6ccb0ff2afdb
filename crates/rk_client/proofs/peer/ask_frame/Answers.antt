use Rattle.std.proofs.Common.{ap, length, arith}
use Rattle.rk_message.proofs.Lengths.{ask_fits}
use Rattle.rk_client.proofs.peer.ask_frame.Goals as goal

pub overflow_cast-len : goal.overflow_cast-len
overflow_cast-len c =
    let fits = ask_fits c.args.ask.now c.in_ok-body.ensures.ask in
    let same = ap length c.in_ok-body.ensures.ok in
    omega (arith, c.len-2.ensures, fits, same)
