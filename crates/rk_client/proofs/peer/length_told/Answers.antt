use Rattle.std.proofs.Common.{rules}
use Rattle.std.proofs.lemmas.Nat.{be_bytes_4}
use Rattle.rk_client.proofs.peer.length_told.Goals as goal

pub returns : goal.returns
returns c = be_bytes_4 c.args.head.now c.from_be_bytes.result (search rules) c.fits-head c.from_be_bytes.ensures
