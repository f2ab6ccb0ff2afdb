use Rattle.rk_preview.proofs.OneReading.{one_reading}
use Rattle.rk_preview.proofs.reading.commands_have_one_reading.Goals as goal

pub returns : goal.returns
returns c = one_reading
