-- What the workers share may go to their threads.
use denote.RattleType.{RattleType}
use denote.Param.Send.{IsSend, IsSync, sendable, struct_send, struct_sync, recorded_send, recorded_sync}
use denote.Struct.Struct.{Struct}
use denote.Struct.Declared.{shape}
use Rattle.std.proofs.Crossing.{crosses}
use Rattle.rk_names.specs.contracts.type_name.TypeName as typ
use Rattle.rk_names.specs.contracts.description.Description as description
use Rattle.rk_conf.specs.contracts.word.Word as word
use Rattle.rk_conf.specs.contracts.argument.Wanted as wanted
use Rattle.rk_conf.specs.contracts.argument.Argument as argument
use Rattle.rk_conf.specs.contracts.conf.Conf as conf
use Rattle.rk_conf.specs.contracts.line.Line as line
use Rattle.rk_hall.specs.declared.names.Names as names
use Rattle.rk_hall.specs.contracts.halls.Halls as halls
use Rattle.rk_hall.proofs.Crossing.{lock_send, lock_sync}
use Rattle.rk_daemon.specs.contracts.chain.Last as last
use Rattle.rk_daemon.specs.contracts.chain.Chain as chain
use Rattle.rk_daemon.specs.contracts.chain.Run as run
use Rattle.rk_daemon.specs.contracts.connections.Connections as connections
use Rattle.rk_daemon.specs.contracts.held.Held as held
use Rattle.rk_daemon.specs.contracts.handlers.Started as started
use Rattle.rk_daemon.specs.contracts.handlers.Handlers as handlers
use Rattle.rk_daemon.specs.contracts.tally.Count as count
use Rattle.rk_daemon.specs.contracts.tally.Tally as tally
use Rattle.rk_daemon.specs.contracts.reporter.LogState as log_state
use Rattle.rk_daemon.specs.contracts.workers.Shared as shared
use Rattle.rk_daemon.specs.contracts.workers.Times as times

typ_send : IsSend typ.the_row
typ_send = search (sendable, crosses) depth 40 fits 20000

description_send : IsSend description.the_row
description_send = search (sendable, crosses) depth 40 fits 20000

word_send : IsSend word.the_row
word_send = search (sendable, crosses) depth 40 fits 20000

-- (in the form in which an argument has it; and so below: the searches find it in that form alone)
wanted_send : IsSend wanted.the_field.row
wanted_send = let t = typ_send in let d = description_send in search (sendable, crosses) depth 40 fits 20000

argument_send : IsSend argument.the_field.row
argument_send = let n = wanted_send in let w = word_send in search (sendable, crosses) depth 40 fits 20000

line_send : IsSend line.the_row
line_send = let w = word_send in let a = argument_send in search (sendable, crosses) depth 40 fits 20000

typ_sync : IsSync typ.the_row
typ_sync = search (sendable, crosses) depth 40 fits 20000

description_sync : IsSync description.the_row
description_sync = search (sendable, crosses) depth 40 fits 20000

word_sync : IsSync word.the_row
word_sync = search (sendable, crosses) depth 40 fits 20000

wanted_sync : IsSync wanted.the_field.row
wanted_sync = let t = typ_sync in let d = description_sync in search (sendable, crosses) depth 40 fits 20000

argument_sync : IsSync argument.the_field.row
argument_sync = let n = wanted_sync in let w = word_sync in search (sendable, crosses) depth 40 fits 20000

line_sync : IsSync line.the_row
line_sync = let w = word_sync in let a = argument_sync in search (sendable, crosses) depth 40 fits 20000

pub conf_send : IsSend conf.the_row
conf_send = let l = line_send in search (sendable, crosses) depth 40 fits 20000

pub conf_sync : IsSync conf.the_row
conf_sync = let l = line_sync in search (sendable, crosses) depth 40 fits 20000

connections_send : IsSend (Struct (shape connections.the_type))
connections_send = search (sendable, crosses) depth 40 fits 20000

connections_sync : IsSync (Struct (shape connections.the_type))
connections_sync = search (sendable, crosses) depth 40 fits 20000

held_send : IsSend (Struct (shape held.the_type))
held_send = search (sendable, crosses) depth 40 fits 20000

held_sync : IsSync (Struct (shape held.the_type))
held_sync = search (sendable, crosses) depth 40 fits 20000

last_send : IsSend (Struct (shape last.the_type))
last_send = search (sendable, crosses) depth 40 fits 20000

chain_send : IsSend (Struct (shape chain.the_type))
chain_send = let l = last_send in search (sendable, crosses) depth 40 fits 20000

chain_sync : IsSync (Struct (shape chain.the_type))
chain_sync = let l = last_send in search (sendable, crosses) depth 40 fits 20000

run_send : IsSend (Struct (shape run.the_type))
run_send = let c = chain_send in search (sendable, crosses) depth 40 fits 20000

run_sync : IsSync (Struct (shape run.the_type))
run_sync = let c = chain_sync in search (sendable, crosses) depth 40 fits 20000

started_send : IsSend started.the_row
started_send = search (sendable, crosses) depth 40 fits 20000

handlers_send : IsSend (Struct (shape handlers.the_type))
handlers_send = let s = started_send in search (sendable, crosses) depth 40 fits 20000

handlers_sync : IsSync (Struct (shape handlers.the_type))
handlers_sync = let s = started_send in search (sendable, crosses) depth 40 fits 20000

count_send : IsSend (Struct (shape count.the_type))
count_send = search (sendable, crosses) depth 40 fits 20000

tally_send : IsSend (Struct (shape tally.the_type))
tally_send = let c = count_send in search (sendable, crosses) depth 40 fits 20000

tally_sync : IsSync (Struct (shape tally.the_type))
tally_sync = let c = count_send in search (sendable, crosses) depth 40 fits 20000

log_send : IsSend (Struct (shape log_state.the_type))
log_send = let t = tally_send in search (sendable, crosses) depth 40 fits 20000

log_sync : IsSync (Struct (shape log_state.the_type))
log_sync = let t = tally_sync in search (sendable, crosses) depth 40 fits 20000

times_send : IsSend (Struct (shape times.the_type))
times_send = search (sendable, crosses) depth 40 fits 20000

times_sync : IsSync (Struct (shape times.the_type))
times_sync = search (sendable, crosses) depth 40 fits 20000

module _ (N : RattleType) (g : names.Ghosts N.Denot) (n : IsSend N) where
  pub shared_send : IsSend (shared.the_row N g)
  shared_send =
      let h : IsSend (Struct (shape (halls.the_type N g))) = struct_send (shape (halls.the_type N g))
      (lock_send N g 0 n, (lock_send N g 1 n, (lock_send N g 2 n, (lock_send N g 3 n, tt)))) in
      recorded_send _ _ _ (shared.the_type N g).to_one (struct_send (shape (shared.the_type N g)) (
        h,
        (
          conf_send,
          (
            search sendable depth 20,
            (
              connections_send,
              (
                held_send,
                (
                  handlers_send,
                  (
                    log_send,
                    (
                      search (sendable, crosses) depth 40 fits 20000,
                      (let r = run_send in search (sendable, crosses) depth 40 fits 20000, (times_send, tt)),
                    ),
                  ),
                ),
              ),
            ),
          ),
        ),
      ))

  pub shared_sync : IsSync (shared.the_row N g)
  shared_sync =
      let h : IsSync (Struct (shape (halls.the_type N g))) = struct_sync (shape (halls.the_type N g))
      (lock_sync N g 0 n, (lock_sync N g 1 n, (lock_sync N g 2 n, (lock_sync N g 3 n, tt)))) in
      recorded_sync _ _ _ (shared.the_type N g).to_one (struct_sync (shape (shared.the_type N g)) (
        h,
        (
          conf_sync,
          (
            search sendable depth 20,
            (
              connections_sync,
              (
                held_sync,
                (
                  handlers_sync,
                  (
                    log_sync,
                    (
                      search (sendable, crosses) depth 40 fits 20000,
                      (let r = run_sync in search (sendable, crosses) depth 40 fits 20000, (times_sync, tt)),
                    ),
                  ),
                ),
              ),
            ),
          ),
        ),
      ))
