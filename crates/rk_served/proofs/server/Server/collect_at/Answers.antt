use Rattle.rk_served.proofs.Words.{refl, slice_get_read, MatchOption-at_some, on_ok_weaker}
use Rattle.rk_served.proofs.Moving.{collects_one}
use Rattle.rk_served.proofs.server.Server.collect_at.Goals as goal

pub returns : goal.returns
returns c =
    let x = c.index.result.now in
    let at = slice_get_read c.args.self.now.peers.items _ c.args.index x c.args.self.now.peers.ok.0 c.requires.within c.index.ensures in
    let can = MatchOption-at_some _ _ x at c.requires.ready in
    on_ok_weaker c.put_reply.result
    (λ puts. collects_one c.args.occasion.now.conf.now c.args.occasion.now.moment _ _ _ _ c.args.index x.who x.subject x.channel at can.0 can.1
    c.step-answer.result c.step-answer.ensures.step refl puts)
    c.put_reply.ensures
