use Rattle.rk_served.proofs.Words.{refl, ◌∙◌, ap, sym, subst, on_ok_weaker, Step, Answer, Start, Asked, Left}
use Rattle.rk_served.proofs.Moving.{no_start, tells_one, start_one}
use Rattle.rk_served.proofs.server.Server.put_answer.Goals as goal

pub returns-in-Start : goal.returns-in-Start
returns-in-Start c before ask step =
    let old : Left = record { world = before; peers = c.args.self.now.peers.items } in
    let first = subst (λ (a : Answer). Step before c.args.occasion.now.moment (Asked c.args.who.now ask) a c.args.self.now.book)
    (c.in-Start.is ∙ ap (Start c.in-Start.key) (sym c.into_subject.ensures)) step in
    on_ok_weaker c.start.result
    (λ starts. start_one c.args.occasion.now.conf.now c.args.occasion.now.moment old _ _ _ c.args.who.now ask c.in-Start.key c.into_subject.result _ first starts)
    c.start.ensures

pub returns-in_default : goal.returns-in_default
returns-in_default c before ask step =
    let old : Left = record { world = before; peers = c.args.self.now.peers.items } in
    on_ok_weaker c.put_reply.result (λ puts. tells_one c.args.occasion.now.conf.now c.args.occasion.now.moment old _ _ _ c.args.who.now ask _
    (no_start _ c.in_default.not-Start) step refl puts)
    c.put_reply.ensures
