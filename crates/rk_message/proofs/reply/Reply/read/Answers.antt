use Rattle.rk_message.proofs.Words.{arith, reply_message, replies}
use Rattle.rk_message.proofs.Replies.{reply_is_only}
use Rattle.rk_message.proofs.Readers.{is_found, is_leftmost}
use Rattle.rk_message.proofs.reply.Reply.read.Goals as goal

pub returns-clause-found : goal.returns-clause-found
returns-clause-found c = is_found reply_message replies c.args.body.now c.read_body.result (λ i. omega (arith, c.type_inv.body i)) c.read_body.ensures

pub returns-clause-only : goal.returns-clause-only
returns-clause-only c = λ r is e. reply_is_only c.args.body.now c.read_body.result r is e c.read_body.ensures

pub returns-clause-leftmost : goal.returns-clause-leftmost
returns-clause-leftmost c = is_leftmost reply_message replies c.args.body.now c.read_body.result (λ i. omega (arith, c.type_inv.body i)) c.read_body.ensures
