use Rattle.rk_message.proofs.Replies.{replies_are_told}
use Rattle.rk_message.proofs.Words.{reply_message, replies}
use Rattle.rk_message.proofs.Messages.{message_again}
use Rattle.rk_message.proofs.Whole.{replies_are_whole}
use Rattle.rk_message.proofs.laws.replies_have_one_reading.Goals as goal

pub returns-clause-told : goal.returns-clause-told
returns-clause-told c = replies_are_told

pub returns-clause-back : goal.returns-clause-back
returns-clause-back c = λ a is. message_again replies (reply_message a) is

pub returns-clause-whole : goal.returns-clause-whole
returns-clause-whole c = replies_are_whole
