use Rattle.std.proofs.Common.{◌≢◌, rules}
use Rattle.rk_devices.proofs.Hearing.{keeps_more}
use Rattle.rk_devices.proofs.reading.keep.Goals as goal

pub loop-preserved : goal.loop-preserved
loop-preserved g c =
    let child = g.C.Child.shown in
    let some : c.in-Ok.count ≢ 0 = search rules in
    record {
      goes_on = search rules;
      kept = keeps_more c.in-Ok.count _ c.read.new.buf (child c.args.child.now) (child c.loop.child) (child c.read.new.self) c.args.output.now c.loop.output
          c.add.new.self some c.in-Ok.ensures.bound c.in-Ok.ensures.same c.loop.invariant.kept c.in-Ok.ensures.reads c.add.ensures;
      reads = search rules;
      times = search rules;
    }
