use Rattle.rk_rings.specs.declared.kind.NewRing.{NewRing}
use Rattle.rk_core.proofs.Greetings.RingsOfAContext.{makes_one, one_more_new}
use Rattle.rk_core.proofs.new_rings.NewRings.make.Goals as goal

pub returns-clause-makes : goal.returns-clause-makes
returns-clause-makes c =
    let one : NewRing = record { serial = c.in-Some.serial; kind = c.args.kind; uid = c.args.uid } in
    makes_one c.args.self.now.serials c.draw.new.self c.args.self.now.made.items c.push.new.self.items one c.in-Some.ensures.fresh c.in-Some.ensures.cases.1
    c.in_ok-push.ensures.items

pub returns-clause-stay : goal.returns-clause-stay
returns-clause-stay c =
    let one : NewRing = record { serial = c.in-Some.serial; kind = c.args.kind; uid = c.args.uid } in
    λ rings. one_more_new c.args.self.now.serials c.draw.new.self c.args.self.now.made.items c.push.new.self.items rings one c.in-Some.ensures.fresh
    c.in-Some.ensures.cases.1 c.in_ok-push.ensures.items
