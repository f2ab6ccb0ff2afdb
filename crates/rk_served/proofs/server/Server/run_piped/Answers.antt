use Rattle.rk_served.proofs.Words.{refl, ◌∙◌, ap, sym, List, ℕ, ◌++◌, slice_get_read, same_Some, slice_get_within, Some, slice_set, Handler, callout_of, peer}
use Rattle.rk_served.proofs.Words.{Starts, Pipes, Peer}
use Rattle.rk_served.proofs.OwnSteps.{piped_one}
use Rattle.rk_served.proofs.Standings.{order_replaced}
use Rattle.rk_served.proofs.server.Server.run_piped.Goals as goal

pub returns : goal.returns
returns c =
    let xs = c.args.self.now.peers.items in
    let i = c.args.index in
    let there = c.requires.starts.1 in
    let within = slice_get_within xs i (peer (Handler c.args.key) (Starts _) (Some c.requires.starts.0)) there in
    let first = same_Some _ _ (sym (slice_get_read xs _ i c.index.result.now refl within c.index.ensures) ∙ there) in
    let same = same_Some _ _ (sym (slice_get_read xs _ i c.index_mut.result.now refl within c.index_mut.ensures.value) ∙ there) in
    piped_one c.args.occasion.now.conf.now c.args.occasion.now.moment c.args.key _ _ _ _ i c.requires.starts c.step.result c.requires.owed c.step.ensures.step
    (ap (λ (x : Peer). slice_set xs i (peer x.who (Pipes c.new-2.result) x.subject)) same
    ∙ ap (λ (b : List ℕ). slice_set xs i (peer (Handler c.args.key) (Pipes b) (Some c.requires.starts.0))) (c.new-2.ensures ∙ c.new.ensures.items))
    (c.in_ok-put_callout.ensures ∙ ap (λ (x : Peer). c.args.out.now.items ++ callout_of c.args.key x.subject) first)

pub invariant_of-self-2 : goal.invariant_of-self-2
invariant_of-self-2 c =
    record {
      in_order = order_replaced c.args.self.now.peers.items c.args.index c.index_mut.result.now
          (Pipes c.new-2.result) c.index_mut.ensures.value c.args.self.now.in_order;
    }
