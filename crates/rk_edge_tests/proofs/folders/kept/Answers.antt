use Rattle.std.proofs.Common.{Some, ap, map, refl}
use Rattle.rk_edge_tests.specs.Done.{in_folder}
use Rattle.rk_edge_tests.proofs.Told.{all_told}
use Rattle.rk_edge_tests.proofs.folders.kept.Goals as goal

pub returns : goal.returns
returns g c =
    rw c.ok-sum.ensures.value (all_told _ _ _ _ (ap (λ items. Some (map in_folder items)) c.new-files.ensures) refl c.keep.ensures)
