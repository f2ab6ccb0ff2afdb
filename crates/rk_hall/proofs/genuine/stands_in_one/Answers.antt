use Rattle.std.proofs.Common.{true≢false, refl, sym, ◌∙◌}
use Rattle.rk_hall.proofs.Receipts.{at_place, one_named, stands_in_none_more, stands_in_none_end}
use Rattle.rk_hall.proofs.genuine.stands_in_one.Goals as goal

pub returns-then-stands_in_this : goal.returns-then-stands_in_this
returns-then-stands_in_this g c =
    let v = c.volume-item.result in
    let at = at_place c.args.volumes.now c.loop-volume.volume-index v c.loop-volume-test.true c.volume-item.is in
    let stands = c.stands_in_this.ensures.0 c.if-stands_in_this.true in
    (λ _. (v, one_named c.args.volumes.now c.args.receipt.now c.loop-volume.volume-index v at stands.0, stands.1), λ _. refl)

pub loop-volume-preserved : goal.loop-volume-preserved
loop-volume-preserved g c =
    let at = at_place c.args.volumes.now c.loop-volume.volume-index c.volume-item.result c.loop-volume-test.true c.volume-item.is in
    stands_in_none_more _ _ _ c.volume-item.result c.loop-volume.invariant at (λ n. true≢false (sym (c.stands_in_this.ensures.1 n) ∙ c.if-stands_in_this.false))

pub returns : goal.returns
returns g c =
    (λ e. absurd (true≢false (sym e)), λ w. absurd (stands_in_none_end _ _ c.loop-volume.volume-index c.loop-volume.invariant c.loop-volume-test.false w))
