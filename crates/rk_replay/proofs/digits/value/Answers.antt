use Rattle.std.proofs.Common.{arith}
use Rattle.rk_replay.proofs.Tables.{values_are}
use Rattle.rk_replay.proofs.digits.value.Goals as goal

pub returns : goal.returns
returns c = values_are c.args.byte (omega arith)
