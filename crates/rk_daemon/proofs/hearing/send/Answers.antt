use Rattle.std.proofs.Common.{◌≢◌, [], refl, rules, subst, sym}
use Rattle.rk_daemon.specs.Lull.{fresh}
use Rattle.rk_daemon.proofs.Hearings.{Leaves, all_after, leaves_all, leaves_less, leaves_none, leaves_some, none_left}
use Rattle.rk_daemon.proofs.hearing.send.Goals as goal

pub loop-init : goal.loop-init
loop-init g c = record {
  leaves = subst (λ m. Leaves c.args.bytes.now (fresh c.args.limit) (g.L.Line.story c.args.line.now) (g.L.Line.story c.args.line.now) c.args.bytes.now m)
      (sym c.new-lull.ensures) (leaves_all _ _ _);
}

pub returns-then-is_empty : goal.returns-then-is_empty
returns-then-is_empty g c =
    leaves_none _ _ _ _ _ _ _ _ c.loop.invariant.leaves (none_left _ c.if-is_empty.ensures) refl

pub loop-preserved : goal.loop-preserved
loop-preserved g c =
    let some : c.loop.rest.now ≢ [] = search rules in
    record {
      leaves = subst (λ rest. Leaves c.args.bytes.now (fresh c.args.limit) (g.L.Line.story c.args.line.now) (g.L.Line.story c.send_once.new.line) rest c.send_once.new.lull)
          (sym (all_after c.in-Ok.count c.loop.rest.now)) (leaves_less _ _ _ _ _ _ _ _ _ c.loop.invariant.leaves some c.in-Ok.ensures.sends);
    }

pub returns-in-Err : goal.returns-in-Err
returns-in-Err g c = let some : c.loop.rest.now ≢ [] = search rules in leaves_some _ _ _ _ _ _ _ _ _ c.loop.invariant.leaves some c.in-Err.ensures.sends
