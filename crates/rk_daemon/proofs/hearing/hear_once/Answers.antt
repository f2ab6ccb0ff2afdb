use Rattle.std.proofs.Common.{rules, ◌≡◌, ◌≢◌}
use Rattle.std.specs.IoError.{error_kind}
use Rattle.std.specs.declared.io.ErrorKind.TheVariants.{Interrupted}
use Rattle.rk_daemon.proofs.Hearings.{heard_again, heard_fault, heard_late, heard_some}
use Rattle.rk_daemon.proofs.hearing.hear_once.Goals as goal

pub returns-then-is_late-clause-hears : goal.returns-then-is_late-clause-hears
returns-then-is_late-clause-hears g c = heard_late _ _ _ _ _ c.from.ensures c.if-is_late.ensures

pub returns-in-Ok-clause-hears : goal.returns-in-Ok-clause-hears
returns-in-Ok-clause-hears g c = heard_some _ _ _ _ _ _ _ c.if-is_late.ensures c.in-Ok.ensures.story c.hear.ensures

pub returns-in-Err-clause-hears : goal.returns-in-Err-clause-hears
returns-in-Err-clause-hears g c =
    let is : error_kind c.in-Err.error ≡ Interrupted = search rules in
    heard_again _ _ _ _ _ _ _ is c.if-is_late.ensures c.in-Err.ensures.story c.begin.ensures

pub returns-in-Err-2-clause-hears : goal.returns-in-Err-2-clause-hears
returns-in-Err-2-clause-hears g c =
    let not : error_kind c.in-Err.error ≢ Interrupted = search rules in
    heard_fault _ _ _ _ _ _ not c.if-is_late.ensures c.in-Err.ensures.story
