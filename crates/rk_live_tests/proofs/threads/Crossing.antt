-- What a thread has kept may go to the one that gathers it. Each part is a lemma, since a search that goes down through all of them runs out of steps.
use denote.RattleType.{RattleType}
use denote.Param.Send.{IsSend, IsSync, sendable}
use Rattle.std.proofs.Crossing.{crosses}
use Rattle.std.proofs.sync.ledger.Share.TheSendSync as shares
use Rattle.std.specs.contracts.alloc.Global as global
use Rattle.rk_names.specs.contracts.type_name.TypeName as type_name
use Rattle.rk_names.specs.contracts.description.Description as description
use Rattle.rk_names.specs.contracts.callout.Callout as callout
use Rattle.rk_names.specs.contracts.payload.Payload as payload
use Rattle.rk_message.specs.contracts.ask.AskOf as ask
use Rattle.rk_record.specs.contracts.receipt.ReceiptOf as receipt
use Rattle.rk_record.specs.contracts.told.ToldOf as told
use Rattle.rk_record.specs.contracts.volume.Volume as recorded
use Rattle.rk_hall.specs.declared.names.Names as names
use Rattle.rk_hall.specs.contracts.seat.Seat as seat
use Rattle.rk_hall.specs.contracts.volume.Volume as volume
use Rattle.rk_hall.proofs.Crossing.{answer_send, ask_send, book_send, recorded_send, reply_send, subject_send}
use Rattle.rk_live_tests.specs.contracts.fakes.turns.Turns as turns
use Rattle.rk_live_tests.specs.contracts.sessions.side_by_side.Left as left
use Rattle.rk_live_tests.specs.contracts.threads.caller.Caller as caller

-- threads may share the allocator
pub global_sync : IsSync global.the_row
global_sync = search (sendable, crosses) depth 40 fits 20000

-- threads may share the turns of a scene
pub turns_sync : IsSync turns.the_row
turns_sync = search (sendable, crosses) depth 40 fits 20000

abbrev asks : RattleType
asks = ask.the_row type_name.the_row description.the_row callout.the_row payload.the_row

told_send : IsSend (told.the_row asks)
told_send = let k = ask_send in search (sendable, crosses) depth 120 fits 20000

-- a receipt may go to another thread
pub receipt_send : IsSend (receipt.the_row asks)
receipt_send =
    let k = ask_send in
    let t = told_send in
    let r = reply_send in
    let s = subject_send in
    let a = answer_send in
    search (sendable, crosses) depth 120 fits 60000

steps_send : IsSend recorded.the_row
steps_send = let b = book_send in let r = recorded_send in search (sendable, crosses) depth 40 fits 20000

module _ (N : RattleType) (g : names.Ghosts N.Denot) where
  pub seat_send : IsSend N → IsSend (seat.the_row N g)
  seat_send n = search (sendable, crosses, shares.the_send) depth 40 fits 20000

  pub volume_send : IsSend N → IsSend (volume.the_row N g)
  volume_send n = let s = steps_send in search (sendable, crosses) depth 40 fits 20000

  pub caller_send : IsSend N → IsSend (caller.the_row N g)
  caller_send n =
      let r = receipt_send in
      let s = seat_send n in
      let v = volume_send n in
      search (sendable, crosses) depth 40 fits 20000

  pub left_send : IsSend N → IsSend (left.the_row N g)
  left_send n =
      let r = receipt_send in
      let s = seat_send n in
      search (sendable, crosses) depth 40 fits 20000
