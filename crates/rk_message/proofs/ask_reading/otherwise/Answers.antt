use Rattle.rk_message.proofs.Words.{◌≡◌, None, asks, kinds_of, rules}
use Rattle.rk_message.proofs.Asks.{behind_is_unknown}
use Rattle.rk_message.proofs.ask_reading.otherwise.Goals as goal

pub returns-in_default : goal.returns-in_default
returns-in_default c =
    let none : kinds_of asks c.args.op ≡ None = search rules in
    (behind_is_unknown c.args.op c.args.bytes.now none, tt)
