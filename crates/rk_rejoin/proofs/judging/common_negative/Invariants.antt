use Rattle.rk_rejoin.proofs.Words.{◌≡◌, take, AllByRecursion}
use Rattle.rk_rejoin.proofs.judging.common_negative.Given as goal

abbrev pub invariant-loop-volume : goal.invariant-loop-volume
invariant-loop-volume l = AllByRecursion (λ v. v.head.negative ≡ l.negative) (take l.volume-index l.volumes)
