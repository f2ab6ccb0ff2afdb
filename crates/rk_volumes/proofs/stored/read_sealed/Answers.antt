use Rattle.rk_volumes.proofs.Words.{◌≡◌, List, refl, Option, Some, inl, inr, err_from_is_err_and, Recorded, Head, Sealed}
use Rattle.rk_volumes.specs.declared.fault.Fault.TheVariants as fault
use Rattle.rk_volumes.proofs.Filed.{where_sealed, no_sum_filed, no_seal_filed, with_sum}
use Rattle.rk_volumes.proofs.stored.read_sealed.Goals as goal

pub returns-in_default-clause-only : goal.returns-in_default-clause-only
returns-in_default-clause-only c = λ h steps seal is. absurd (no_sum_filed c.args.file.now c.in_default.ensures.only c.requires h steps seal is)

pub returns-in_default-clause-fault : goal.returns-in_default-clause-fault
returns-in_default-clause-fault c = inr (c.requires, inl (refl, c.in_default.ensures.only))

pub returns-in_default-split_seal-clause-only : goal.returns-in_default-split_seal-clause-only
returns-in_default-split_seal-clause-only c =
    let cut = c.in-Some.ensures.found in
    λ h steps seal is. absurd (no_seal_filed c.args.file.now c.in-Some.front.now c.in-Some.sum.now cut.0 cut.1 c.in_default-split_seal.ensures.only c.requires
    h steps seal is)

pub returns-in_default-split_seal-clause-fault : goal.returns-in_default-split_seal-clause-fault
returns-in_default-split_seal-clause-fault c =
    let cut = c.in-Some.ensures.found in
    inr (c.requires, inr (c.in-Some.front.now, with_sum _ _ _ cut.0 cut.1, inl (refl, c.in_default-split_seal.ensures.only)))

pub returns-in_err-head-clause-only : goal.returns-in_err-head-clause-only
returns-in_err-head-clause-only c =
    let p = err_from_is_err_and c.from_residual.result c.from_residual.ensures.1 in
    let cut = c.in-Some.ensures.found in
    let seal = c.in-Some-split_seal in
    rw (p.1, p.2) (where_sealed c.args.file.now c.in-Some.front.now c.in-Some.sum.now seal.volume.now seal.seal
    (λ h steps s. c.in_err-head.field-0.0 ≡ fault.NoMemory) cut.0 cut.1 seal.ensures.found.0 seal.ensures.found.1 c.in_err-head.ensures.only c.requires)

pub returns-in_err-head-clause-fault : goal.returns-in_err-head-clause-fault
returns-in_err-head-clause-fault c =
    let p = err_from_is_err_and c.from_residual.result c.from_residual.ensures.1 in
    let cut = c.in-Some.ensures.found in
    let seal = c.in-Some-split_seal in
    rw (p.1, p.2) (inr (
      c.requires,
      inr (
        c.in-Some.front.now,
        with_sum _ _ _ cut.0 cut.1,
        inr (seal.seal, seal.volume.now, seal.ensures.found.0, seal.ensures.found.1, c.in_err-head.ensures.fault),
      ),
    ))

pub returns-clause-only : goal.returns-clause-only
returns-clause-only c =
    let cut = c.in-Some.ensures.found in
    let seal = c.in-Some-split_seal in
    where_sealed c.args.file.now c.in-Some.front.now c.in-Some.sum.now seal.volume.now seal.seal
    (λ (h : Head) (ss : List Recorded) (s : Option Sealed). (c.in_ok-head.head ≡ h) × (c.in_ok-head.steps.items ≡ ss)
    × (Some (record { seal = seal.seal; sum = c.in-Some.sum.now }) ≡ s))
    cut.0 cut.1 seal.ensures.found.0 seal.ensures.found.1 (λ h ss is. let one = c.in_ok-head.ensures.only h ss is in (one.0, one.1, refl)) c.requires
