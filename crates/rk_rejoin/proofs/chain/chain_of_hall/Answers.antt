use Rattle.rk_rejoin.proofs.Words.{Some, sym, ap, subst, ◌∙◌, err_from_is_err_and, no_sum, last_link, AreChained, IsTied, IsUntied}
use Rattle.rk_rejoin.proofs.Joined.{is_here, is_elsewhere, none_more}
use Rattle.rk_rejoin.proofs.Chained.{first_link, none_chained, tied_more, link_more, unchained}
use Rattle.rk_rejoin.proofs.chain.chain_of_hall.Goals as goal
use Rattle.rk_rejoin.proofs.chain.chain_of_hall.Goals.{then-number+in_ok-link, else-number}

pub loop-volume-init : goal.loop-volume-init
loop-volume-init c = record { link = sym first_link; chained = none_chained }

pub returns-in_err-link-clause-refused : goal.returns-in_err-link-clause-refused
returns-in_err-link-clause-refused c =
    let vs = c.args.volumes.now in
    let h = c.args.hall in
    let i = c.loop-volume.volume-index in
    let v = c.volume-item.result in
    let had = c.loop-volume.invariant in
    let here = is_here h v c.number.result c.number-in-loop-volume.result c.number.ensures c.number-in-loop-volume.ensures c.if-number.true in
    let p = err_from_is_err_and c.from_residual.result c.from_residual.ensures.1 in
    rw (p.1, p.2) (unchained h vs i v c.loop-volume-test.true c.volume-item.is c.in_err-link.field-0.0 here had.chained
    (subst (λ link. IsUntied link v c.in_err-link.field-0.0) had.link c.in_err-link.ensures.refused))

pub loop-volume-preserved : goal.loop-volume-preserved
loop-volume-preserved c =
    let vs = c.args.volumes.now in
    let h = c.args.hall in
    let i = c.loop-volume.volume-index in
    let v = c.volume-item.result in
    let had = c.loop-volume.invariant in
    let lt = c.loop-volume-test.true in
    let at = c.volume-item.is in
    elim c.if-number.branch [
      | then-number+in_ok-link w ↦
          let here = is_here h v c.number.result c.number-in-loop-volume.result c.number.ensures c.number-in-loop-volume.ensures w.if-number.true in
          let next = w.in_ok-link.ensures.tied in
          rw w.link-is (record {
            link = next.1 ∙ link_more h vs i v lt at here;
            chained = tied_more h vs i v lt at here had.chained (subst (λ link. IsTied link v) had.link next.0);
          })
      | else-number w ↦
          let away = is_elsewhere h v c.number.result c.number-in-loop-volume.result c.number.ensures c.number-in-loop-volume.ensures w.if-number.false in
          let same = none_more h vs i v lt at away in
          rw w.link-is (record {
            link = had.link ∙ ap (last_link (Some no_sum)) (sym same);
            chained = subst (AreChained (Some no_sum)) (sym same) had.chained;
          })
    ]
