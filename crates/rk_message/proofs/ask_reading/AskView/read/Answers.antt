-- What was read behind the first byte was read of the body.
use Rattle.rk_message.proofs.Words.{refl}
use Rattle.rk_message.proofs.Asks.{behind_is_only}
use Rattle.rk_message.proofs.ask_reading.AskView.read.Goals as goal

pub returns-in-2-clause-only : goal.returns-in-2-clause-only
returns-in-2-clause-only c = behind_is_only c.args.body.now 2 c.request.result c.in-len1-up.len_at_least c.in-2.is c.request.ensures

pub returns-in-7-clause-only : goal.returns-in-7-clause-only
returns-in-7-clause-only c = behind_is_only c.args.body.now 7 c.read.result c.in-len1-up.len_at_least c.in-7.is c.read.ensures

pub returns-in-8-clause-only : goal.returns-in-8-clause-only
returns-in-8-clause-only c = behind_is_only c.args.body.now 8 c.describe.result c.in-len1-up.len_at_least c.in-8.is c.describe.ensures

pub returns-in_default-op-clause-only : goal.returns-in_default-op-clause-only
returns-in_default-op-clause-only c = behind_is_only c.args.body.now _ c.otherwise.result c.in-len1-up.len_at_least refl c.otherwise.ensures
