use Rattle.rk_rejoin.proofs.Words.{◌≡◌, ◌<◌, ◌^◌, length, take, map, flat_map, steps_of, of_hall, AreNext}
use Rattle.rk_rejoin.proofs.joining.steps_of_hall.Given as goal

abbrev pub invariant-loop-volume : goal.invariant-loop-volume
invariant-loop-volume l = record {
  steps : map (λ s. s.now) l.joined.items ≡ map steps_of (of_hall l.hall (take l.volume-index l.volumes));
  fits : l.before < 2 ^ 64;
  before : l.before ≡ length (flat_map steps_of (of_hall l.hall (take l.volume-index l.volumes)));
  next : AreNext 0 0 (of_hall l.hall (take l.volume-index l.volumes));
}
