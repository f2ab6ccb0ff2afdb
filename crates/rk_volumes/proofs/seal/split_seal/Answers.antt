use Rattle.rk_volumes.proofs.Words.{◌++◌, seal_bytes}
use Rattle.rk_volumes.proofs.seal.split_seal.Goals as goal

pub returns-in_default-clause-only : goal.returns-in_default-clause-only
returns-in_default-clause-only c = λ s volume is. c.in_default.ensures.only (seal_bytes s ++ volume)
