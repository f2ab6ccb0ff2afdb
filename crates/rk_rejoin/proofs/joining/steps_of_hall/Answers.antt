use Rattle.rk_rejoin.proofs.Words.{◌≡◌, ◌+◌, List, [], ◌∷◌, ◌++◌, length, map, take, refl, sym, ap, subst, ◌∙◌, arith, flat_map, take_all, err_from_is_err_and}
use Rattle.rk_rejoin.proofs.Words.{Stored, steps_of, of_hall, joined, AreNext}
use Rattle.rk_rejoin.proofs.Joined.{next_none, one_more, none_more, count_more, next_on, pushed, as_many, is_here, is_elsewhere}
use Rattle.rk_rejoin.proofs.Told.{no_next}
use Rattle.rk_rejoin.proofs.joining.steps_of_hall.Goals as goal
use Rattle.rk_rejoin.proofs.joining.steps_of_hall.Goals.{then-number+in_ok-follows+in-Some+in-Ok, else-number}

pub loop-volume-init : goal.loop-volume-init
loop-volume-init c = record { steps = rw c.new-joined.ensures.items refl; fits = omega arith; before = refl; next = next_none }

pub returns-in_err-follows-clause-refused : goal.returns-in_err-follows-clause-refused
returns-in_err-follows-clause-refused c =
    let vs = c.args.volumes.now in
    let h = c.args.hall in
    let i = c.loop-volume.volume-index in
    let v = c.volume-item.result in
    let had = c.loop-volume.invariant in
    let here = is_here h v c.number.result c.number-in-loop-volume.result c.number.ensures c.number-in-loop-volume.ensures c.if-number.true in
    let many = as_many c.loop-volume.joined.items (of_hall h (take i vs)) had.steps in
    let p = err_from_is_err_and c.from_residual.result c.from_residual.ensures.1 in
    rw (p.1, p.2) (no_next h vs i v c.len.result c.loop-volume.before c.in_err-follows.field-0.0 c.loop-volume-test.true c.volume-item.is here had.next
    (omega (arith, c.len.ensures, many)) had.before c.in_err-follows.ensures.refused)

pub loop-volume-preserved : goal.loop-volume-preserved
loop-volume-preserved c =
    let vs = c.args.volumes.now in
    let h = c.args.hall in
    let i = c.loop-volume.volume-index in
    let v = c.volume-item.result in
    let xs = of_hall h (take i vs) in
    let ys = of_hall h (take (i + 1) vs) in
    let had = c.loop-volume.invariant in
    elim c.if-number.branch [
      | then-number+in_ok-follows+in-Some+in-Ok w ↦
          let here = is_here h v c.number.result c.number-in-loop-volume.result c.number.ensures c.number-in-loop-volume.ensures w.if-number.true in
          let more : ys ≡ xs ++ v ∷ [] = one_more h vs i v c.loop-volume-test.true c.volume-item.is here in
          let many = as_many c.loop-volume.joined.items xs had.steps in
          let list = w.as_slice.ensures.value in
          let follows = w.in_ok-follows.ensures.next in
          rw (w.joined-is, w.before-is) (record {
            steps = pushed c.loop-volume.joined.items w.push.new.self.items w.as_slice.result xs ys v w.in-Ok.ensures.items list more had.steps;
            fits = omega (arith, w.in-Some.ensures);
            before = omega (arith, w.in-Some.ensures, w.len-then-number.ensures, count_more xs ys v c.loop-volume.before more had.before);
            next = next_on xs ys v w.len.result c.loop-volume.before more had.next (omega (arith, w.len.ensures, many)) had.before follows.0 follows.1;
          })
      | else-number w ↦
          let away = is_elsewhere h v c.number.result c.number-in-loop-volume.result c.number.ensures c.number-in-loop-volume.ensures w.if-number.false in
          let same : ys ≡ xs = none_more h vs i v c.loop-volume-test.true c.volume-item.is away in
          rw (w.joined-is, w.before-is) (record {
            steps = had.steps ∙ ap (map steps_of) (sym same);
            fits = had.fits;
            before = had.before ∙ ap (λ (l : List Stored). length (flat_map steps_of l)) (sym same);
            next = subst (AreNext 0 0) (sym same) had.next;
          })
    ]

pub returns-clause-count : goal.returns-clause-count
returns-clause-count c =
    let all = ap (λ (l : List Stored). length (joined c.args.hall l)) (take_all c.loop-volume.volume-index c.args.volumes.now c.loop-volume-test.false) in
    omega (arith, c.loop-volume.invariant.before, all, c.loop-volume.invariant.fits)
