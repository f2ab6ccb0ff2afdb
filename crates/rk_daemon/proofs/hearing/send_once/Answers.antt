use Rattle.std.proofs.Common.{rules, ◌≡◌, ◌≢◌, [], ◌∷◌, Ok}
use Rattle.std.specs.IoError.{error_kind}
use Rattle.std.specs.declared.io.ErrorKind.TheVariants.{Interrupted}
use Rattle.rk_daemon.specs.Line.{HasWritten}
use Rattle.rk_daemon.specs.Story.{and_then}
use Rattle.rk_daemon.proofs.Hearings.{sent_again, sent_fault, sent_late, sent_none, sent_some}
use Rattle.rk_daemon.proofs.hearing.send_once.Goals as goal

pub returns-then-is_late-clause-sends : goal.returns-then-is_late-clause-sends
returns-then-is_late-clause-sends g c = sent_late _ _ _ _ _ _ c.from.ensures c.if-is_late.ensures

pub returns-in-Ok-eq0-clause-sends : goal.returns-in-Ok-eq0-clause-sends
returns-in-Ok-eq0-clause-sends g c =
    let told : g.L.Line.story c.write.new.self ≡ and_then (g.L.Line.story c.is_late.new.line) (HasWritten c.args.bytes.now (Ok 0) ∷ []) = search rules in
    sent_none _ _ _ _ _ _ _ _ c.from-in-Ok-eq0.ensures c.if-is_late.ensures told c.begin.ensures

pub returns-in-Ok-clause-sends : goal.returns-in-Ok-clause-sends
returns-in-Ok-clause-sends g c = sent_some _ _ _ _ _ _ _ _ c.in-Ok.count-test.1 c.if-is_late.ensures c.in-Ok.ensures.story c.begin.ensures

pub returns-in-Err-clause-sends : goal.returns-in-Err-clause-sends
returns-in-Err-clause-sends g c =
    let is : error_kind c.in-Err.error ≡ Interrupted = search rules in
    sent_again _ _ _ _ _ _ _ _ is c.if-is_late.ensures c.in-Err.ensures.story c.begin.ensures

pub returns-in-Err-2-clause-sends : goal.returns-in-Err-2-clause-sends
returns-in-Err-2-clause-sends g c =
    let not : error_kind c.in-Err.error ≢ Interrupted = search rules in
    sent_fault _ _ _ _ _ _ _ _ not c.if-is_late.ensures c.in-Err.ensures.story c.begin.ensures
