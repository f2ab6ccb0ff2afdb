-- Halls may go to another thread, and be shared by threads: all that they hold may. Each part is a lemma, since a search that goes down through all of
-- them runs out of steps.
use denote.RattleType.{RattleType}
use Prim.Native.Nat.{ℕ}
use denote.Param.{number}
use denote.Param.Send.{IsSend, IsSync, sendable}
use Rattle.std.proofs.Crossing.{crosses}
use Rattle.rk_table.specs.contracts.table.Table as table
use Rattle.rk_table.specs.contracts.hashed.HashTable as hashed
use Rattle.rk_table.specs.contracts.counts.Counts as counts
use Rattle.rk_keys.specs.contracts.key.Key as key
use Rattle.rk_keys.specs.contracts.keys.Keys as keys
use Rattle.rk_names.specs.contracts.numbers.NameNo as name
use Rattle.rk_keys.specs.contracts.by_name.Bucket as bucket
use Rattle.rk_keys.specs.contracts.serials.Serials as serials
use Rattle.rk_rings.specs.contracts.by_name.ByName as by_name
use Rattle.rk_rings.specs.contracts.row.Row as row
use Rattle.rk_rings.specs.contracts.rings.Rings as rings
use Rattle.rk_auth.proofs.Crossing.{auths_send, callout_send, shared_bytes_send}
use Rattle.rk_core.specs.contracts.last_text.LastText as last_text
use Rattle.rk_core.specs.contracts.book.Book as book
use Rattle.rk_names.specs.contracts.type_name.TypeName as type_name
use Rattle.rk_names.specs.contracts.description.Description as description
use Rattle.rk_names.specs.contracts.callout.Callout as callout
use Rattle.rk_names.specs.contracts.payload.Payload as payload
use Rattle.rk_message.specs.contracts.ask.AskOf as ask
use Rattle.rk_message.specs.contracts.reply.Reply as reply
use Rattle.rk_macro.specs.contracts.subject.Subject as subject
use Rattle.rk_machine.specs.contracts.event.EventOf as event
use Rattle.rk_machine.specs.contracts.event.Answer as answer
use Rattle.rk_record.specs.contracts.recorded.Recorded as recorded
use Rattle.rk_record.specs.contracts.room.Room as room
use Rattle.rk_record.specs.contracts.journal.Journal as journal
use Rattle.rk_record.specs.contracts.hall.Hall as hall
use Rattle.std.proofs.sync.ledger.Book.TheSendSync as accounts
use Rattle.std.proofs.sync.ledger.Share.TheSendSync as shares
use Rattle.std.specs.contracts.alloc.Global as global
use Rattle.rk_hall.specs.declared.names.Names as names
use Rattle.rk_hall.specs.contracts.locked.Locked as locked
use Rattle.rk_hall.specs.contracts.lock.Lock as lock
use Rattle.rk_hall.specs.contracts.halls.Halls as halls

-- an allocator may go to another thread
pub global_send : IsSend global.the_row
global_send = search (sendable, crosses) depth 40 fits 20000

-- ---- tables

pub table_send : (V : RattleType) → IsSend V → IsSend (table.the_row V)
table_send V v = search (sendable, crosses) depth 40

pub hashed_send : (V : RattleType) → IsSend V → IsSend (hashed.the_row V)
hashed_send V v = search (sendable, crosses) depth 40

pub counts_send : IsSend counts.the_row
counts_send = search (sendable, crosses) depth 40

-- ---- names and payloads

pub description_send : IsSend description.the_row
description_send = let b = shared_bytes_send in search (sendable, crosses) depth 40 fits 20000

pub payload_send : IsSend payload.the_row
payload_send = let b = shared_bytes_send in search (sendable, crosses) depth 40 fits 20000

-- ---- keys

pub key_send : IsSend key.the_row
key_send = let d = description_send in let p = payload_send in search (sendable, crosses) depth 40 fits 20000

pub bucket_send : IsSend bucket.the_row
bucket_send = let d = description_send in search (sendable, crosses) depth 40 fits 20000

pub serials_send : IsSend serials.the_row
serials_send = search (sendable, crosses) depth 40

pub keys_send : IsSend keys.the_row
keys_send =
    let f = hashed_send key.the_row key_send in
    let n = hashed_send name.the_row (search (sendable, crosses) depth 40) in
    let b = hashed_send bucket.the_row bucket_send in
    let c = counts_send in
    let s = serials_send in
    search (sendable, crosses) depth 40

-- ---- rings

pub by_name_send : IsSend by_name.the_row
by_name_send = search (sendable, crosses) depth 40 fits 20000

pub row_send : IsSend row.the_row
row_send = let l = table_send name.the_row (search (sendable, crosses) depth 40) in let b = by_name_send in search (sendable, crosses) depth 40 fits 20000

pub rings_send : IsSend rings.the_row
rings_send = let w = row_send in let r = table_send row.the_row row_send in let c = counts_send in search (sendable, crosses) depth 40 fits 20000

-- ---- the book and the record of its steps

-- the text of the key that was described last may go to another thread (as a book has it)
pub last_text_send : IsSend last_text.the_field.row
last_text_send = let b = shared_bytes_send in search (sendable, crosses) depth 40 fits 20000

-- a book may go to another thread
pub book_send : IsSend book.the_row
book_send = let k = keys_send in let r = rings_send in let a = auths_send in let t = last_text_send in search (sendable, crosses) depth 40

abbrev asks : RattleType
asks = ask.the_row type_name.the_row description.the_row callout.the_row payload.the_row

-- an ask may go to another thread
pub ask_send : IsSend asks
ask_send = let d = description_send in let c = callout_send in let p = payload_send in search (sendable, crosses) depth 40 fits 20000

-- a reply may go to another thread
pub reply_send : IsSend reply.the_row
reply_send = let b = shared_bytes_send in search (sendable, crosses) depth 40 fits 20000

-- a subject may go to another thread
pub subject_send : IsSend subject.the_row
subject_send = let d = description_send in let c = callout_send in search (sendable, crosses) depth 40 fits 20000

-- an event may go to another thread (as a recorded step has it)
pub event_send : IsSend (event.the_field asks).row
event_send = let p = payload_send in let a = ask_send in search (sendable, crosses) depth 40 fits 20000

-- an answer may go to another thread (as a recorded step has it)
pub answer_send : IsSend answer.the_field.row
answer_send = let r = reply_send in let s = subject_send in search (sendable, crosses) depth 40 fits 20000

-- a recorded step may go to another thread
pub recorded_send : IsSend recorded.the_row
recorded_send =
    let p = payload_send in let k = ask_send in let e = event_send in let a = answer_send in search (sendable, crosses) depth 120 fits 20000

pub room_send : IsSend room.the_row
room_send = search (sendable, crosses) depth 40 fits 20000

pub journal_send : IsSend journal.the_row
journal_send = let r = recorded_send in let o = room_send in search (sendable, crosses) depth 40 fits 20000

pub hall_send : IsSend hall.the_row
hall_send = let b = book_send in let j = journal_send in search (sendable, crosses) depth 40 fits 20000

-- ---- the halls, whose ledgers are named by a type that may go to another thread

module _ (N : RattleType) (g : names.Ghosts N.Denot) where
  module _ (h : ℕ) where
    pub locked_send : IsSend N → IsSend (locked.the_row N (number h) g)
    locked_send n = let b = hall_send in search (sendable, crosses, accounts.the_send, shares.the_send) depth 40 fits 20000

    -- a hall under its lock may go to another thread
    pub lock_send : IsSend N → IsSend (lock.the_field N (number h) g).row
    lock_send n = let l = locked_send n in search (sendable, crosses) depth 40 fits 20000

    -- a hall under its lock may be shared by threads
    pub lock_sync : IsSend N → IsSync (lock.the_field N (number h) g).row
    lock_sync n = let l = locked_send n in search (sendable, crosses) depth 40 fits 20000

  pub halls_send : IsSend N → IsSend (halls.the_row N g)
  halls_send n =
      let a = lock_send 0 n in
      let b = lock_send 1 n in
      let c = lock_send 2 n in
      let d = lock_send 3 n in
      search (sendable, crosses) depth 40 fits 20000

  -- halls may be shared by threads
  pub halls_sync : IsSend N → IsSync (halls.the_row N g)
  halls_sync n =
      let a = lock_sync 0 n in
      let b = lock_sync 1 n in
      let c = lock_sync 2 n in
      let d = lock_sync 3 n in
      search (sendable, crosses) depth 40 fits 20000
