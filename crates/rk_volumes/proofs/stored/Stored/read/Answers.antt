use Rattle.rk_volumes.proofs.Words.{◌≡◌, List, refl, Option, None, inl, err_from_is_err_and, Recorded, Head, Sealed}
use Rattle.rk_volumes.specs.declared.fault.Fault.TheVariants as fault
use Rattle.rk_volumes.proofs.Filed.{where_bare}
use Rattle.rk_volumes.proofs.stored.Stored.read.Goals as goal

pub returns-in_err-head-clause-only : goal.returns-in_err-head-clause-only
returns-in_err-head-clause-only c =
    let p = err_from_is_err_and c.from_residual.result c.from_residual.ensures.1 in
    rw (p.1, p.2) (where_bare c.args.file.now (λ h ss s. c.in_err-head.field-0.0 ≡ fault.NoMemory) c.in_default.ensures.only c.in_err-head.ensures.only)

pub returns-in_err-head-clause-fault : goal.returns-in_err-head-clause-fault
returns-in_err-head-clause-fault c =
    let p = err_from_is_err_and c.from_residual.result c.from_residual.ensures.1 in
    rw (p.1, p.2) (inl (λ begins. c.in_default.ensures.only begins.0 begins.1, c.in_err-head.ensures.fault))

pub returns-clause-only : goal.returns-clause-only
returns-clause-only c =
    where_bare c.args.file.now (λ (h : Head) (ss : List Recorded) (s : Option Sealed). (c.in_ok-head.head ≡ h) × (c.in_ok-head.steps.items ≡ ss) × (None ≡ s))
    c.in_default.ensures.only (λ h ss is. let one = c.in_ok-head.ensures.only h ss is in (one.0, one.1, refl))
