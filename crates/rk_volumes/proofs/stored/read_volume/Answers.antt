use Rattle.rk_volumes.proofs.Words.{length, ◌<◌, ◌≤◌, rules, err_from_is_err_and}
use Rattle.rk_volumes.specs.declared.fault.Fault.TheVariants as fault
use Rattle.rk_volumes.proofs.Files.{stored_has_none, stored_is_read, missing_of, file_of, trailing_of, stored_of}
use Rattle.rk_volumes.proofs.stored.read_volume.Goals as goal

pub returns-in_default-clause-only : goal.returns-in_default-clause-only
returns-in_default-clause-only c = λ h steps is. stored_has_none c.args.file.now fault.Title h steps c.in_default.ensures.only is

pub returns-in_default-read_head-clause-only : goal.returns-in_default-read_head-clause-only
returns-in_default-read_head-clause-only c =
    λ h steps is. stored_has_none c.args.file.now fault.Head h steps (c.in-Some.rest.now, c.in-Some.ensures.found, c.in_default-read_head.ensures.only) is

pub returns-in_err-steps-clause-only : goal.returns-in_err-steps-clause-only
returns-in_err-steps-clause-only c =
    let p = err_from_is_err_and c.from_residual.result c.from_residual.ensures.1 in
    let head = c.in-Some-read_head in
    rw (p.1, p.2) (λ h steps is. stored_has_none c.args.file.now c.in_err-steps.field-0.0 h steps (missing_of c.args.file.now head.rest.now head.head
    head.count c.in_err-steps.field-0.0 head.ensures.found.0 (file_of _ _ _ _ _ c.in-Some.ensures.found head.ensures.found.1) c.in_err-steps.ensures.fault) is)

pub returns-in_err-steps-clause-fault : goal.returns-in_err-steps-clause-fault
returns-in_err-steps-clause-fault c =
    let p = err_from_is_err_and c.from_residual.result c.from_residual.ensures.1 in
    let head = c.in-Some-read_head in
    rw (p.1, p.2) (missing_of c.args.file.now head.rest.now head.head head.count c.in_err-steps.field-0.0 head.ensures.found.0
    (file_of _ _ _ _ _ c.in-Some.ensures.found head.ensures.found.1) c.in_err-steps.ensures.fault)

pub returns-then-not-is_empty-clause-only : goal.returns-then-not-is_empty-clause-only
returns-then-not-is_empty-clause-only c =
    let head = c.in-Some-read_head in
    let steps = c.in_ok-steps in
    let there : 0 < length steps.rest.now = search rules in
    λ h ss is. stored_has_none c.args.file.now fault.Trailing h ss (trailing_of c.args.file.now c.in-Some.rest.now head.rest.now steps.rest.now head.head
    head.count steps.steps.items head.ensures.found.0 c.in-Some.ensures.found head.ensures.found.1 steps.ensures.found.0 steps.ensures.found.1
    steps.ensures.found.2 there) is

pub returns-clause-only : goal.returns-clause-only
returns-clause-only c =
    let head = c.in-Some-read_head in
    let steps = c.in_ok-steps in
    let none : length steps.rest.now ≤ 0 = search rules in
    λ h ss is. stored_is_read c.args.file.now h head.head ss steps.steps.items (stored_of c.args.file.now c.in-Some.rest.now head.rest.now steps.rest.now
    head.head head.count steps.steps.items head.ensures.found.0 c.in-Some.ensures.found head.ensures.found.1 steps.ensures.found.0 steps.ensures.found.1
    steps.ensures.found.2 none) is
