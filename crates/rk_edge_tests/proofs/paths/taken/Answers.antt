use Rattle.std.proofs.Common.{Some, ap, map, refl}
use Rattle.rk_edge_tests.specs.Done.{at_path}
use Rattle.rk_edge_tests.proofs.Told.{all_told}
use Rattle.rk_edge_tests.proofs.paths.taken.Goals as goal

pub returns : goal.returns
returns g c =
    rw c.file_in.ensures (all_told _ _ _ _ (ap (λ items. Some (map at_path items)) c.new-place.ensures) refl c.take-outcome.ensures)
