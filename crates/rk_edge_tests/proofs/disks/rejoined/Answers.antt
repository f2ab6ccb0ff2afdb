use Rattle.std.proofs.Common.{Some, ap, map, refl, string_bytes}
use Rattle.std.proofs.lemmas.Result.{IfErr-weaker, IfOk-weaker}
use Rattle.rk_rejoin.specs.Rejoined.{AreRejoined}
use Rattle.rk_rejoin.specs.Unread.{AreRefused}
use Rattle.rk_edge_tests.specs.Done.{from_disk}
use Rattle.rk_edge_tests.proofs.Told.{all_told}
use Rattle.rk_edge_tests.proofs.disks.rejoined.Goals as goal

pub returns-clause-rejoined : goal.returns-clause-rejoined
returns-clause-rejoined g c =
    let files = map string_bytes c.args.paths.now in
    IfOk-weaker c.rejoin_files-outcome.result _ _
    (λ total. all_told (AreRejoined files total) _ _ _ (ap (λ items. Some (map from_disk items)) c.new-disk.ensures) refl)
    c.rejoin_files-outcome.ensures.rejoined

pub returns-clause-refused : goal.returns-clause-refused
returns-clause-refused g c =
    let files = map string_bytes c.args.paths.now in
    IfErr-weaker c.rejoin_files-outcome.result _ _
    (λ fault. all_told (AreRefused files fault) _ _ _ (ap (λ items. Some (map from_disk items)) c.new-disk.ensures) refl)
    c.rejoin_files-outcome.ensures.refused
