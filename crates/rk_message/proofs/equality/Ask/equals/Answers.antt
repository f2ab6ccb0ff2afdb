use Rattle.rk_message.proofs.Equal.{tells}
use Rattle.rk_message.proofs.equality.Ask.equals.Goals as goal

pub returns : goal.returns
returns c = rw c.eq.ensures (tells c.args.self.now c.args.other.now)
