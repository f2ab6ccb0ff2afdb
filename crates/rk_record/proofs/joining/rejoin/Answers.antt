use Rattle.std.proofs.Common.{refl, subst, arith, ◌∙◌}
use Rattle.std.specs.List.{flat_map}
use Rattle.rk_machine.specs.World.{empty_world}
use Rattle.rk_record.specs.Record.{Runs}
use Rattle.rk_record.proofs.Runs.{runs-none}
use Rattle.rk_record.proofs.Joins.{laws_of, run_more, count_more, breaks_joined, take_whole}
use Rattle.rk_record.proofs.joining.rejoin.Goals as goal

pub loop-volume-init : goal.loop-volume-init
loop-volume-init c = record { run = rw c.in-Ok.ensures (runs-none _); number = refl }

pub returns-in-Err-clause-broken : goal.returns-in-Err-clause-broken
returns-in-Err-clause-broken c =
    breaks_joined (λ v. v.now) _ _ _ _ c.volume-item.result _ _ c.loop-volume-test.true c.volume-item.is c.loop-volume.invariant.run c.loop-volume.invariant.number c.in-Err.ensures.broken

pub loop-volume-preserved : goal.loop-volume-preserved
loop-volume-preserved c = record {
  run = run_more (λ v. v.now) _ _ _ _ _ c.volume-item.result c.loop-volume-test.true c.volume-item.is c.loop-volume.invariant.run c.in-Ok-step_through.ensures.run;
  number = c.in-Ok-step_through.ensures.count ∙ count_more (λ v. v.now) c.args.volumes.now c.loop-volume.volume-index c.volume-item.result c.loop-volume.number c.loop-volume-test.true c.volume-item.is c.loop-volume.invariant.number;
}

pub returns-clause-run : goal.returns-clause-run
returns-clause-run c =
    let l = c.args.limits in
    let runs = subst (λ xs. Runs (empty_world l.negative l.first l.stride) (flat_map (λ v. v.now) xs) c.loop-volume.book) (take_whole c.args.volumes.now c.loop-volume.volume-index (omega (arith, c.loop-volume-test.false))) c.loop-volume.invariant.run in
    (c.loop-volume.book, laws_of l.negative l.first l.stride (flat_map (λ v. v.now) c.args.volumes.now) c.loop-volume.book runs)
