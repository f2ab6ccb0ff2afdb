-- All that is known of sessions may go to another thread. Each part is a lemma, since a search that goes down through all of them runs out of steps.
use denote.RattleType.{RattleType}
use denote.Param.Send.{IsSend, sendable}
use Rattle.std.proofs.Crossing.{crosses}
use Rattle.std.specs.contracts.alloc.Global as global
use Rattle.rk_names.specs.contracts.callout.Callout as callout
use Rattle.rk_names.specs.contracts.context.Context as context
use Rattle.rk_names.specs.contracts.numbers.Serial as serial
use Rattle.rk_names.specs.contracts.shared_bytes.SharedBytes as shared_bytes
use Rattle.rk_table.specs.contracts.table.Table as table
use Rattle.rk_auth.specs.contracts.session.Session as session
use Rattle.rk_auth.specs.contracts.session.Wait as wait
use Rattle.rk_auth.specs.contracts.construction.Stage as stage
use Rattle.rk_auth.specs.contracts.construction.Authority as authority
use Rattle.rk_auth.specs.contracts.construction.Construction as construction
use Rattle.rk_auth.specs.contracts.slot.Standing as standing
use Rattle.rk_auth.specs.contracts.slot.Link as link
use Rattle.rk_auth.specs.contracts.slot.Slot as slot
use Rattle.rk_auth.specs.contracts.places.Places as places
use Rattle.rk_auth.specs.contracts.seats.Seats as seats
use Rattle.rk_auth.specs.contracts.auths.Auths as auths

global_send : IsSend global.the_row
global_send = search (sendable, crosses) depth 40 fits 20000

table_send : (V : RattleType) → IsSend V → IsSend (table.the_row V)
table_send V v = search (sendable, crosses) depth 40 fits 20000

serial_send : IsSend serial.the_row
serial_send = search (sendable, crosses) depth 40 fits 20000

context_send : IsSend context.the_row
context_send = search (sendable, crosses) depth 40 fits 20000

wait_send : IsSend wait.the_row
wait_send = search (sendable, crosses) depth 40 fits 20000

session_send : IsSend session.the_row
session_send = let c = context_send in let w = wait_send in search (sendable, crosses) depth 40 fits 20000

stage_send : IsSend stage.the_row
stage_send = let c = context_send in let s = session_send in search (sendable, crosses) depth 40 fits 20000

-- shared bytes may go to another thread
pub shared_bytes_send : IsSend shared_bytes.the_row
shared_bytes_send = search (sendable, crosses) depth 40 fits 20000

-- a callout may go to another thread
pub callout_send : IsSend callout.the_row
callout_send = let s = shared_bytes_send in search (sendable, crosses) depth 40 fits 20000

authority_send : IsSend authority.the_row
authority_send = let c = context_send in let t = callout_send in search (sendable, crosses) depth 40 fits 20000

construction_send : IsSend construction.the_row
construction_send = let s = stage_send in let a = authority_send in search (sendable, crosses) depth 40 fits 20000

-- (in the form in which a slot has it: the search there finds it in that form alone)
standing_send : IsSend (standing.the_field).row
standing_send = let k = serial_send in let s = session_send in let c = construction_send in search (sendable, crosses) depth 120 fits 20000

link_send : IsSend link.the_row
link_send = search (sendable, crosses) depth 40 fits 20000

slot_send : IsSend slot.the_row
slot_send = let s = standing_send in let l = link_send in search (sendable, crosses) depth 120 fits 20000

places_send : (V : RattleType) → IsSend V → IsSend (places.the_row V)
places_send V v = let g = global_send in search (sendable, crosses) depth 40 fits 20000

seats_send : IsSend seats.the_row
seats_send = let s = places_send slot.the_row slot_send in search (sendable, crosses) depth 120 fits 20000

-- sessions and constructions may go to another thread
pub auths_send : IsSend auths.the_row
auths_send = let s = seats_send in search (sendable, crosses) depth 40 fits 20000
