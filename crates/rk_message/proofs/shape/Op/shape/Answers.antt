use Rattle.rk_message.proofs.Words.{◌≡◌, op_byte}
use Rattle.rk_message.proofs.Lines.{line_at}
use Rattle.rk_message.proofs.shape.Op.shape.Goals as goal

pub returns : goal.returns
returns c =
    let byte : c.from.result ≡ op_byte c.args.self = cc in
    line_at c.all.result.now c.args.self c.from.result _ byte c.all.ensures
