use Rattle.rk_served.proofs.Words.{refl, [], inr, inl, on_ok_weaker, Client, done, Gone, one_step, no_step}
use Rattle.rk_served.specs.declared.happening.Happening.TheVariants as happening
use Rattle.rk_served.proofs.OwnSteps.{begins_quiet, read_fault_one}
use Rattle.rk_served.proofs.server.Server.own_step.Goals as goal

pub returns-in-Bytes : goal.returns-in-Bytes
returns-in-Bytes c =
    on_ok_weaker c.lengthen.result (λ h. rw c.in-Bytes.is
    (begins_quiet c.args.occasion.now.conf.now c.args.occasion.now.moment (happening.Bytes c.in-Bytes.client c.in-Bytes.bytes) _ _ _ (no_step []) refl (rw c.as_slice.ensures at h)))
    c.lengthen.ensures

pub returns-in-Gone : goal.returns-in-Gone
returns-in-Gone c =
    rw c.in-Gone.is (begins_quiet c.args.occasion.now.conf.now c.args.occasion.now.moment (happening.Gone c.in-Gone.client) _ _ _
    (one_step c.args.occasion.now.moment (Gone (Client c.in-Gone.client)) done []) refl c.leave.ensures)

pub returns-in-HandlerBytes : goal.returns-in-HandlerBytes
returns-in-HandlerBytes c =
    on_ok_weaker c.lengthen-in-HandlerBytes.result (λ h. rw c.in-HandlerBytes.is
    (begins_quiet c.args.occasion.now.conf.now c.args.occasion.now.moment (happening.HandlerBytes c.in-HandlerBytes.key c.in-HandlerBytes.bytes) _ _ _ (no_step []) refl
    (rw c.as_slice-in-HandlerBytes.ensures at h)))
    c.lengthen-in-HandlerBytes.ensures

pub returns-in-HandlerReadFault : goal.returns-in-HandlerReadFault
returns-in-HandlerReadFault c =
    elim c.in-HandlerReadFault.is [
      | inl e ↦ rw e (on_ok_weaker c.break_off.result (λ h. read_fault_one c.args.occasion.now.conf.now c.args.occasion.now.moment c.in-HandlerReadFault.key _ _ _ _ h) c.break_off.ensures)
      | inr e ↦ rw e c.break_off.ensures
    ]
