use Rattle.rk_served.proofs.Words.{◌≡◌, true, vec_len, without, are_in_order}
use Rattle.rk_served.proofs.peers.remove.Given as goal

abbrev pub invariant-loop-index : goal.invariant-loop-index
invariant-loop-index l = record {
  same : without l.who l.peers.items ≡ without l.who l.fn.peers.items;
  order : are_in_order l.peers.items ≡ true;
}

abbrev pub decreases-loop-index : goal.decreases-loop-index
decreases-loop-index l = vec_len l.peers
