use Rattle.std.proofs.Common.{◌≡◌, ◌≤◌, ◌+◌, get_or, pos, of_z, to_z, w32, rules, arith}
use Rattle.std.proofs.lemmas.Int.{to_z-of_z}
use Rattle.std.proofs.lemmas.List.{take_more, take_all}
use Rattle.rk_ctl.specs.Searching.{began}
use Rattle.rk_ctl.proofs.Describing.{counted_most, one_tried}
use Rattle.rk_ctl.proofs.searching.sweep.Goals as goal

pub loop-key-init : goal.loop-key-init
loop-key-init g c = record { bound = omega arith; swept = began }

pub loop-key-preserved : goal.loop-key-preserved
loop-key-preserved g c =
    let most : c.counted-count.result ≤ c.loop-key.count + 1 = rw c.counted-count.ensures (counted_most c.loop-key.count c.in_ok-swept.swept) in
    let same : to_z w32 (of_z w32 (get_or c.args.keys.now c.loop-key.key-index (pos 0))) ≡ get_or c.args.keys.now c.loop-key.key-index (pos 0) =
    to_z-of_z w32 (get_or c.args.keys.now c.loop-key.key-index (pos 0)) (search rules) in
    record {
      bound = omega (arith, most, c.loop-key.invariant.bound);
      swept = one_tried _ _ _ _ _ _ _ _ _ _ _ _ c.loop-key.invariant.swept (rw same at c.in_ok-swept.ensures)
          (take_more c.args.keys.now c.loop-key.key-index (pos 0) c.loop-key-test.true) c.counted-count.ensures;
    }

pub returns : goal.returns
returns g c = rw (take_all c.loop-key.key-index c.args.keys.now c.loop-key-test.false) at c.loop-key.invariant.swept
