use Rattle.std.proofs.Common.{◌∙◌, arith}
use Rattle.rk_machine.proofs.OwedSteps.EachRecorded.{constructions_owed}
use Rattle.rk_hall.proofs.locked.Locked.put_stray.Goals as goal

pub overflow_add-self : goal.overflow_add-self
overflow_add-self g c =
    let i = c.self.invariant in
    let home = i.home in
    let out = i.out in
    let one = c.args.ticket.one in
    let merged = c.merge.ensures.amount in
    let bound = c.audit.ensures.bound in
    let s = c.count-steps.ensures.sound in
    let fits = s.fits in
    let least = s.least in
    let most = s.most in
    let few = constructions_owed c.self.inside.hall.world in omega arith

pub invariant_of-self : goal.invariant_of-self
invariant_of-self g c =
    let i = c.self.invariant in
    let home = i.home in
    let spare = i.spare in
    let part = c.args.ticket.part in
    let one = c.args.ticket.one in
    let parts = c.merge.ensures.parts in
    let amount = c.merge.ensures.amount in
    let audited = c.audit.ensures.parts in
    let counted = c.audit.ensures.amount in
    record {
      number = i.number;
      calls = i.calls;
      pool = i.pool;
      most = i.most;
      gone = i.gone;
      out = c.audit.ensures.total ∙ i.out;
      home = omega arith;
      spare = omega arith;
    }
