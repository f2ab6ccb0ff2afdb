use Rattle.rk_message.proofs.Words.{sym, Option, subst, asks, kinds_of, Op}
use Rattle.rk_message.proofs.Lines.{HasByte, op_found}
use Rattle.rk_message.proofs.shape.Op.from_byte.Goals as goal

pub returns : goal.returns
returns c =
    subst (λ (found : Option Op). HasByte c.args.byte found (kinds_of asks c.args.byte)) (sym c.op_with.ensures)
    (op_found c.all.result.now c.args.byte c.all.ensures)
