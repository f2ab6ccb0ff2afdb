use Rattle.rk_core.proofs.Words.{sym, ◌∙◌, without_client}
use Rattle.rk_core.proofs.Stepping.SessionsAlone.{in_sessions}
use Rattle.rk_core.proofs.Vanishing.LeavingClient.{leaves_alone, leaves_with}
use Rattle.rk_core.proofs.tables.Tables.leave.Goals as goal

pub returns-in-None : goal.returns-in-None
returns-in-None c =
    let t = c.self.inside in
    in_sessions t.negative t.keys t.rings t.auths.sessions c.leave.new.self.sessions c.args.self.now (without_client c.args.client) c.self.view_is
    c.leave.ensures.sessions
    ∙ leaves_alone c.args.self.now c.args.client (sym c.context_of.ensures ∙ c.in-None.is) c.requires

pub returns-in-Some : goal.returns-in-Some
returns-in-Some c =
    let t = c.self-in-Some.inside in
    in_sessions t.negative t.keys t.rings t.auths.sessions c.leave-in-Some.new.self.sessions c.drop_if-in-Some-2.new.self (without_client c.args.client)
    c.self-in-Some.view_is c.leave-in-Some.ensures.sessions
    ∙ leaves_with c.args.self.now c.drop_if.new.self c.drop_if-in-Some.new.self c.drop_if-in-Some-2.new.self c.args.client c.in-Some.context
    c.session_going-session.result
    (sym c.context_of.ensures ∙ c.in-Some.is) c.drop_if.ensures.new c.drop_if-in-Some.ensures.new c.drop_if-in-Some-2.ensures.new
    c.session_going-session.ensures
