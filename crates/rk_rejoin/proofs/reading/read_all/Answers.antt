use Rattle.rk_rejoin.proofs.Words.{string_bytes, err_from_is_err_and}
use Rattle.rk_rejoin.proofs.Readings.{none_read, one_more, out_after, stops}
use Rattle.rk_rejoin.proofs.reading.read_all.Goals as goal

pub loop-file-init : goal.loop-file-init
loop-file-init g c = rw c.new-volumes.ensures.items (none_read _)

pub loop-file-preserved : goal.loop-file-preserved
loop-file-preserved g c =
    rw c.in-Ok.ensures.items (one_more string_bytes c.args.files.now c.loop-file.file-index c.file-item.result _ _ _ _ c.loop-file.volumes.items
    c.loop-file-test.true c.file-item.is c.as_str.ensures.value c.loop-file.invariant c.in_ok-read.field-0 c.in_ok-read.ensures.read)

pub returns-in_default-clause-refused : goal.returns-in_default-clause-refused
returns-in_default-clause-refused g c =
    out_after string_bytes c.args.files.now c.loop-file.file-index c.file-item.result _ _ _ _ c.loop-file.volumes.items c.loop-file-test.true
    c.file-item.is c.as_str.ensures.value c.loop-file.invariant c.in_ok-read.field-0 c.in_ok-read.ensures.read

pub returns-in_err-read-clause-refused : goal.returns-in_err-read-clause-refused
returns-in_err-read-clause-refused g c =
    let p = err_from_is_err_and c.from_residual.result c.from_residual.ensures.1 in
    rw (p.1, p.2) (stops string_bytes c.args.files.now c.loop-file.file-index c.file-item.result _ _ _ _ c.loop-file.volumes.items c.loop-file-test.true
    c.file-item.is c.as_str.ensures.value c.loop-file.invariant c.in_err-read.field-0.0 c.in_err-read.ensures.refused)
