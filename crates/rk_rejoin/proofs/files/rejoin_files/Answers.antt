use Rattle.rk_rejoin.proofs.Words.{map, string_bytes, subst, sym, err_from_is_err_and, Reads, AreOfFiles}
use Rattle.rk_rejoin.proofs.Readings.{rejoined, unread}
use Rattle.rk_rejoin.proofs.files.rejoin_files.Goals as goal

pub returns-in_err-volumes-clause-refused : goal.returns-in_err-volumes-clause-refused
returns-in_err-volumes-clause-refused g c =
    let p = err_from_is_err_and c.from_residual.result c.from_residual.ensures.1 in
    rw (p.1, p.2) (unread _ _ _ _ c.in_err-volumes.ensures.refused)

pub returns-clause-rejoined : goal.returns-clause-rejoined
returns-clause-rejoined g c =
    let files = map string_bytes c.args.files.now in
    let are = subst (λ vs. Reads (AreOfFiles files vs) (g.D.Disk.story c.args.disk.now) (g.D.Disk.story c.volumes_of.new.disk)) (sym c.deref.ensures.value)
    c.in_ok-volumes.ensures.read in
    let is = c.in_ok-total.ensures in
    rejoined files c.deref.result.now _ _ are c.in_ok-total.total is.negative is.zero is.one is.two is.three is.run is.closed
