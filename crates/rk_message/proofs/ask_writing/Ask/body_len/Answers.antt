use Rattle.rk_message.proofs.Words.{ap, arith, length}
use Rattle.rk_message.proofs.Lengths.{ask_fits}
use Rattle.rk_message.proofs.ask_writing.Ask.body_len.Goals as goal

pub returns-clause-fits : goal.returns-clause-fits
returns-clause-fits c =
    let fits = ask_fits c.view.result c.spelled.ensures.ask in
    let same = ap length c.spelled.ensures.bytes in
    (omega (arith, c.len.ensures), omega (arith, c.len.ensures))
