use Rattle.rk_session.proofs.Words.{subst, sym, AsksHere, NotRead, Speaks}
use Rattle.std.proofs.Common.{rules}
use Rattle.rk_message.specs.Bodies.{Spells}
use Rattle.rk_message.specs.Leftmost.{IsFaultOf}
use Rattle.rk_message.specs.Table.{asks}
use Rattle.rk_talk.specs.declared.saying.Saying.TheVariants as saying
use Rattle.rk_session.proofs.turns.turn.Goals as goal

pub returns-in-Err-clause-ends : goal.returns-in-Err-clause-ends
returns-in-Err-clause-ends g c = let left : IsFaultOf asks c.args.body.now c.in-Err.fault = search rules in (
  saying.Short c.errno.result,
  NotRead c.errno.result (c.in-Err.fault, left, c.errno.ensures),
  subst (λ r. Speaks (saying.Short c.errno.result) r (g.W.Wire.shown c.args.wire.now).story (g.W.Wire.shown c.refuse.new.wire)) (sym c.written.ensures)
      c.refuse.ensures.speaks,
)

pub returns-in-None-clause-ends : goal.returns-in-None-clause-ends
returns-in-None-clause-ends g c =
    let said = c.ask_here.ensures.said in
    let spells : Spells c.in-Ok.ask c.args.body.now = search rules in
    (said.0, AsksHere c.in-Ok.ask said.0 c.ask_here.new.crew.caller.seat spells c.in-None.ensures said.1, said.2)
