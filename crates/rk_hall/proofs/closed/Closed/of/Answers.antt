use Rattle.std.proofs.Common.{arith}
use Rattle.rk_machine.proofs.OwedSteps.EachRecorded.{constructions_owed}
use Rattle.rk_hall.proofs.closed.Closed.of.Goals as goal

pub invariant_of-result : goal.invariant_of-result
invariant_of-result g c =
    let i = c.locked.invariant in
    let calls = i.calls in
    let gone = i.gone in
    let out = i.out in
    let home = i.home in
    let s = c.count-steps.ensures.sound in
    let fits = s.fits in
    let numbers = s.numbers in
    let least = s.least in
    let most = s.most in
    let turns = c.audit.ensures.bound in
    let total = c.audit.ensures.total in
    let amount = c.audit.ensures.amount in
    let strays = c.audit-2.ensures.bound in
    let few = constructions_owed c.locked.inside.hall.world in
    record { number = i.number; calls = omega arith; pool = omega arith; most = omega arith; few = omega arith }
