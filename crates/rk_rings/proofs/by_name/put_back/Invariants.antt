use Rattle.rk_rings.proofs.Words.{spare, ◌≡◌, ◌≤◌, ◌+◌, fold, take, empty, named, turned_more}
use Rattle.rk_rings.proofs.by_name.put_back.Given as goal

abbrev pub invariant-loop-link : goal.invariant-loop-link
invariant-loop-link l = record {
  facts : named l.keys.entries ≡ fold turned_more empty (take l.link-index l.links);
  room : spare l.fn.keys ≤ spare l.keys + l.link-index;
}
