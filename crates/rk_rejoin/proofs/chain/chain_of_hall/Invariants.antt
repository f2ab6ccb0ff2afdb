use Rattle.rk_rejoin.proofs.Words.{◌≡◌, take, Some, of_hall, no_sum, last_link, AreChained}
use Rattle.rk_rejoin.proofs.chain.chain_of_hall.Given as goal

abbrev pub invariant-loop-volume : goal.invariant-loop-volume
invariant-loop-volume l = record {
  link : l.link ≡ last_link (Some no_sum) (of_hall l.hall (take l.volume-index l.volumes));
  chained : AreChained (Some no_sum) (of_hall l.hall (take l.volume-index l.volumes));
}
