use denote.Param.{param}
use denote.Param.Send.{sendable}
use Rattle.rk_hall.proofs.Crossing.{global_send, halls_sync}
use Rattle.rk_live_tests.proofs.threads.Crossing.{left_send, turns_sync}
use Rattle.rk_live_tests.proofs.sessions.side_by_side.Pair.serves.Goals as goal

-- the threads share the halls and the turns
pub join-requires-send-F : goal.join-requires-send-F
join-requires-send-F g c κs within =
    let h = halls_sync (param 0 g.row.N) g.N.Names c.type_bounds.send-N in
    let y = c.type_bounds.sync-R in
    let a = global_send in
    let t = turns_sync in
    search sendable depth 40

-- and give what is left of their sessions
pub join-requires-send-A : goal.join-requires-send-A
join-requires-send-A g c κs within =
    let l = left_send (param 0 g.row.N) g.N.Names c.type_bounds.send-N in
    search sendable depth 40
