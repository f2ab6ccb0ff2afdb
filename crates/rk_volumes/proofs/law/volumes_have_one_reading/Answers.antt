use Rattle.rk_volumes.proofs.Files.{have_one_reading}
use Rattle.rk_volumes.proofs.law.volumes_have_one_reading.Goals as goal

pub returns : goal.returns
returns c = have_one_reading
