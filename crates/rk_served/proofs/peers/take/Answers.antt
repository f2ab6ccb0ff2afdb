use Rattle.rk_served.proofs.Words.{◌∙◌, ap, are_in_order}
use Rattle.rk_served.proofs.PeerLists.{found_at, removed_at}
use Rattle.rk_served.proofs.Standings.{order_without}
use Rattle.rk_served.proofs.peers.take.Goals as goal

pub returns-in-Some-clause-rest : goal.returns-in-Some-clause-rest
returns-in-Some-clause-rest c =
    let xs = c.args.peers.now.items in
    let found = found_at xs c.in-Some.index c.args.who.now c.remove.result (rw c.deref.ensures.value at c.in-Some.ensures.within) c.remove.ensures.value
    (rw c.deref.ensures.value at c.in-Some.ensures.found) in
    c.remove.ensures.items ∙ removed_at xs c.in-Some.index c.args.who.now c.remove.result c.requires.apart found.0 found.1

pub returns-in-Some-clause-order : goal.returns-in-Some-clause-order
returns-in-Some-clause-order c = ap are_in_order (returns-in-Some-clause-rest c) ∙ order_without c.args.who.now c.args.peers.now.items c.requires.order
