use denote.Param.{param}
use denote.Param.Send.{sendable}
use Rattle.rk_hall.proofs.Crossing.{halls_sync}
use Rattle.rk_live_tests.proofs.threads.Crossing.{caller_send, global_sync}
use Rattle.rk_live_tests.proofs.threads.together.SideBySide.work.Goals as goal

-- the threads share the halls
pub map_indices-callers-requires-sync-F : goal.map_indices-callers-requires-sync-F
map_indices-callers-requires-sync-F g c κs within =
    let h = halls_sync (param 0 g.row.N) g.N.Names c.type_bounds.send-N in
    let y = c.type_bounds.sync-R in
    let a = global_sync in
    search sendable depth 40

-- and give what they have kept
pub map_indices-callers-requires-send-X : goal.map_indices-callers-requires-send-X
map_indices-callers-requires-send-X g c κs within =
    let k = caller_send (param 0 g.row.N) g.N.Names c.type_bounds.send-N in
    search sendable depth 40
