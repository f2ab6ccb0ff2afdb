use Rattle.rk_rejoin.proofs.Words.{◌≡◌, take, AllByRecursion, run_of}
use Rattle.rk_rejoin.proofs.one_run.have_one_run.Given as goal

abbrev pub invariant-loop-volume : goal.invariant-loop-volume
invariant-loop-volume l = AllByRecursion (λ v. run_of v ≡ run_of l.first) (take l.volume-index l.volumes)
