use Rattle.rk_served.proofs.Words.{refl, ◌∙◌, ap, sym, slice_get_read, same_Some, slice_get_within, Some, slice_set, Handler, peer, Unused, Starts, Talks, Peer}
use Rattle.rk_served.proofs.OwnSteps.{plain_one}
use Rattle.rk_served.proofs.Standings.{order_replaced}
use Rattle.rk_served.proofs.server.Server.run_plain.Goals as goal

pub returns : goal.returns
returns c conf put =
    let xs = c.args.self.now.peers.items in
    let i = c.args.index in
    let there = c.requires.starts.1 in
    let at = slice_get_read xs _ i c.index_mut.result.now refl
    (slice_get_within xs i (peer (Handler c.args.key) (Starts _) (Some c.requires.starts.0)) there) c.index_mut.ensures.value in
    let same = same_Some _ _ (sym at ∙ there) in
    plain_one conf c.args.now c.args.key _ _ put put i c.requires.starts c.step.result c.requires.owed c.step.ensures.step
    (ap (λ (x : Peer). slice_set xs i (peer x.who (Talks c.new.result) x.subject)) same
    ∙ ap (λ (u : Unused). slice_set xs i (peer (Handler c.args.key) (Talks u) (Some c.requires.starts.0))) c.new.ensures)

pub invariant_of-self : goal.invariant_of-self
invariant_of-self c =
    record {
      in_order = order_replaced c.args.self.now.peers.items c.args.index c.index_mut.result.now
          (Talks c.new.result) c.index_mut.ensures.value c.args.self.now.in_order;
    }
