use Rattle.rk_message.proofs.Words.{ap, arith, length}
use Rattle.rk_message.proofs.Lengths.{reply_fits}
use Rattle.rk_message.proofs.reply.Reply.body_len.Goals as goal

pub returns-clause-fits : goal.returns-clause-fits
returns-clause-fits c =
    let fits = reply_fits c.args.self.now c.spelled.ensures.reply in
    let same = ap length c.spelled.ensures.bytes in
    (omega (arith, c.len.ensures), omega (arith, c.len.ensures))
