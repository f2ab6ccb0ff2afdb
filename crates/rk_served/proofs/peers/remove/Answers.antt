use Rattle.rk_served.proofs.Words.{◌∙◌, ap, sym, is_some, without, are_in_order}
use Rattle.rk_served.proofs.PeerLists.{found_at, without_none, without_removed}
use Rattle.rk_served.proofs.Standings.{order_removed}
use Rattle.rk_served.proofs.peers.remove.Goals as goal

pub loop-index-preserved : goal.loop-index-preserved
loop-index-preserved c =
    let xs = c.loop-index.peers.items in
    let found = found_at xs c.in-Some.index c.args.who.now c.remove.result (rw c.deref.ensures.value at c.in-Some.ensures.within) c.remove.ensures.value
    (rw c.deref.ensures.value at c.in-Some.ensures.found) in
    record {
      same = ap (without c.args.who.now) c.remove.ensures.items
          ∙ without_removed xs c.in-Some.index c.args.who.now c.remove.result found.0 found.1 ∙ c.loop-index.invariant.same;
      order = ap are_in_order c.remove.ensures.items ∙ order_removed xs c.in-Some.index c.loop-index.invariant.order;
    }

pub returns-clause-without : goal.returns-clause-without
returns-clause-without c =
    sym (without_none c.loop-index.peers.items c.args.who.now (ap is_some (rw c.deref.ensures.value at c.in_default.ensures.none))) ∙ c.loop-index.invariant.same
