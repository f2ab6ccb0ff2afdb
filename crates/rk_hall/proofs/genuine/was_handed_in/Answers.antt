use Rattle.std.proofs.Common.{true≢false, refl, sym, ◌∙◌}
use Rattle.rk_hall.proofs.Receipts.{at_place, one_named, none_named_more, none_named_end}
use Rattle.rk_hall.proofs.genuine.was_handed_in.Goals as goal

pub returns-then-is_named_by : goal.returns-then-is_named_by
returns-then-is_named_by g c =
    let v = c.volume-item.result in
    let at = at_place c.args.volumes.now c.loop-volume.volume-index v c.loop-volume-test.true c.volume-item.is in
    (λ _. (v, one_named c.args.volumes.now c.args.receipt.now c.loop-volume.volume-index v at (c.is_named_by.ensures.0 c.if-is_named_by.true)), λ _. refl)

pub loop-volume-preserved : goal.loop-volume-preserved
loop-volume-preserved g c =
    let at = at_place c.args.volumes.now c.loop-volume.volume-index c.volume-item.result c.loop-volume-test.true c.volume-item.is in
    none_named_more _ _ _ c.volume-item.result c.loop-volume.invariant at (λ n. true≢false (sym (c.is_named_by.ensures.1 n) ∙ c.if-is_named_by.false))

pub returns : goal.returns
returns g c =
    (λ e. absurd (true≢false (sym e)), λ w. absurd (none_named_end _ _ c.loop-volume.volume-index c.loop-volume.invariant c.loop-volume-test.false w))
