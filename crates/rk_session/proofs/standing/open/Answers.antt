use Rattle.rk_session.proofs.Words.{subst, sym, Client, Stays, stays_same, IsNotCalled}
use Rattle.rk_session.proofs.Seats.{opened_by}
use Rattle.rk_session.proofs.standing.open.Goals as goal

pub returns-in-Ok : goal.returns-in-Ok
returns-in-Ok g c =
    opened_by (Client c.args.client) c.args.hall c.now-now.result c.args.caller.now.seat c.open_in.new.seat c.spend.new.caller.seat c.in-Ok.field-0.receipt
    c.in-Ok.field-0.launch c.refusal_of.result c.in-Ok.ensures.receipt c.in-Ok.ensures.seat c.in-Ok.ensures.launch c.spend.ensures.stays c.spend.ensures.idle
    c.refusal_of.ensures

pub returns-in-Err : goal.returns-in-Err
returns-in-Err g c = (
  subst (Stays c.args.caller.now.seat) (sym c.in-Err.ensures.same) (stays_same c.args.caller.now.seat),
  IsNotCalled c.in-Err.fault c.in-Err.ensures.err c.refused.ensures c.in-Err.ensures.same,
)
