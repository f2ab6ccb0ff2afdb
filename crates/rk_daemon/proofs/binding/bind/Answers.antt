use Rattle.rk_daemon.proofs.Bindings.{bound_it}
use Rattle.rk_daemon.proofs.binding.bind.Goals as goal

pub returns : goal.returns
returns g c =
    let w = c.written-sum.ensures in
    bound_it c.args.run c.args.closing c.args.head.now c.before-previous.result c.written-sum.result w.0 _ _ _ _ c.before-previous.ensures w.1 c.settle.ensures w.2
