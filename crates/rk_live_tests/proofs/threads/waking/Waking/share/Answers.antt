use denote.Param.{param}
use denote.Param.Send.{sendable}
use Rattle.rk_hall.proofs.Crossing.{global_send, halls_sync}
use Rattle.rk_live_tests.proofs.threads.Crossing.{turns_sync}
use Rattle.rk_live_tests.proofs.threads.waking.Waking.share.Goals as goal

-- the threads share the halls and the turns
pub join-told-requires-send-F : goal.join-told-requires-send-F
join-told-requires-send-F g c κs within =
    let h = halls_sync (param 0 g.row.N) g.N.Names c.type_bounds.send-N in
    let y = c.type_bounds.sync-R in
    let a = global_send in
    let t = turns_sync in
    search sendable depth 40
