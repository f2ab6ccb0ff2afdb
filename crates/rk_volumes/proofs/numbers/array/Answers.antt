use Rattle.rk_volumes.proofs.Words.{ap, length, arith, length-take}
use Rattle.rk_volumes.proofs.Sealing.{cut_at}
use Rattle.rk_volumes.proofs.numbers.array.Goals as goal

pub returns : goal.returns
returns g c =
    let at = c.in_ok-front.ensures.cases in
    let bytes = c.args.bytes.now in
    (omega (arith, ap length at.0, length-take g.row.N bytes, at.2), cut_at bytes c.in_ok-front.front.now c.in_ok-front.rest.now g.row.N at.0 at.1)
