use denote.Param.{param}
use denote.Param.Send.{IsSend, sendable}
use Rattle.std.proofs.Crossing.{crosses, Arc-send}
use Rattle.rk_daemon.specs.contracts.workers.Client as client
use Rattle.rk_daemon.specs.contracts.workers.Shared as shared
use Rattle.rk_daemon.proofs.Crossing.{shared_send, shared_sync}
use Rattle.rk_daemon.proofs.workers.start_one.Goals as goal

client_send : IsSend client.the_row
client_send = search (sendable, crosses) depth 40 fits 20000

-- a worker's thread takes what is shared, and its end of the channel
pub spawn-requires-send-F : goal.spawn-requires-send-F
spawn-requires-send-F g c κs within =
    let s = shared_send (param 0 g.row.N) g.N.Names c.type_bounds.send-N in
    let y = shared_sync (param 0 g.row.N) g.N.Names c.type_bounds.send-N in
    let a = Arc-send (shared.the_row (param 0 g.row.N) g.N.Names) s y in
    let e = client_send in
    let o = c.type_bounds.send-R in
    search (sendable, crosses) depth 60 fits 20000
