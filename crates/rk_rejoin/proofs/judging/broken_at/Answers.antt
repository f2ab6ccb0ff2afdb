use Rattle.std.proofs.Common.{◌-◌, refl, arith}
use Rattle.rk_rejoin.proofs.Joined.{is_here, is_elsewhere}
use Rattle.rk_rejoin.proofs.Told.{stands_at, names_step, not_yet, of_another}
use Rattle.rk_rejoin.proofs.judging.broken_at.Goals as goal
use Rattle.rk_rejoin.proofs.judging.broken_at.Goals.{then-number+else-step-len, else-number}

pub overflow_sub-step : goal.overflow_sub-step
overflow_sub-step c =
    let v = c.volume-item.result in
    let here = is_here c.args.hall v c.number.result c.number-in-loop-volume.result c.number.ensures c.number-in-loop-volume.ensures c.if-number.true in
    let place = stands_at c.args.hall c.args.volumes.now c.loop-volume.volume-index v c.loop-volume-test.true c.volume-item.is here c.requires.next in
    omega (arith, place, c.loop-volume.invariant)

pub returns-then-step-len : goal.returns-then-step-len
returns-then-step-len c =
    let v = c.volume-item.result in
    let here = is_here c.args.hall v c.number.result c.number-in-loop-volume.result c.number.ensures c.number-in-loop-volume.ensures c.if-number.true in
    let named = names_step c.args.hall c.args.volumes.now c.loop-volume.volume-index v c.args.number (c.args.number - v.head.before) c.loop-volume-test.true
    c.volume-item.is here c.requires.next c.loop-volume.invariant refl (omega (arith, c.if-step-len.true, c.len.ensures)) in
    (named.0, named.1, named.2, c.number-then-step-len.ensures, named.4, named.5, named.6, named.7)

pub loop-volume-preserved : goal.loop-volume-preserved
loop-volume-preserved c =
    let v = c.volume-item.result in
    let i = c.loop-volume.volume-index in
    let own = c.number.ensures in
    let its = c.number-in-loop-volume.ensures in
    elim c.if-number.branch [
      | then-number+else-step-len w ↦
          let here = is_here c.args.hall v c.number.result c.number-in-loop-volume.result own its w.if-number.true in
          not_yet c.args.hall c.args.volumes.now i v c.args.number (c.args.number - v.head.before) c.loop-volume-test.true c.volume-item.is here c.requires.next
          c.loop-volume.invariant refl (omega (arith, w.if-step-len.false, w.len.ensures))
      | else-number w ↦
          let away = is_elsewhere c.args.hall v c.number.result c.number-in-loop-volume.result own its w.if-number.false in
          of_another c.args.hall c.args.volumes.now i v c.args.number c.loop-volume-test.true c.volume-item.is away c.loop-volume.invariant
    ]
