use Rattle.rk_message.proofs.Asks.{asks_are_told}
use Rattle.rk_message.proofs.Words.{ask_message, asks}
use Rattle.rk_message.proofs.Messages.{message_again}
use Rattle.rk_message.proofs.Whole.{asks_are_whole}
use Rattle.rk_message.proofs.laws.asks_have_one_reading.Goals as goal

pub returns-clause-told : goal.returns-clause-told
returns-clause-told c = asks_are_told

pub returns-clause-back : goal.returns-clause-back
returns-clause-back c = λ a is. message_again asks (ask_message a) is.0

pub returns-clause-whole : goal.returns-clause-whole
returns-clause-whole c = asks_are_whole
