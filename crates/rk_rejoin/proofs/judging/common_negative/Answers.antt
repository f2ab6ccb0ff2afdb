use Rattle.rk_rejoin.proofs.Words.{rules, ◌≡◌, length, refl, sym, ◌∙◌, slice_get_read, negative_of}
use Rattle.rk_rejoin.proofs.judging.common_negative.Goals as goal

pub returns-then-volume-negative-clause-refused : goal.returns-then-volume-negative-clause-refused
returns-then-volume-negative-clause-refused c =
    let vs = c.args.volumes.now in
    let i = c.loop-volume.volume-index in
    let same : c.in-Some.first.now.head.negative ≡ negative_of vs = search rules in (
      i,
      c.volume-item.result,
      slice_get_read vs (length vs) i c.volume-item.result refl c.loop-volume-test.true c.volume-item.is,
      c.number.ensures,
      refl,
      λ e. c.if-volume-negative.true (e ∙ sym same),
    )
