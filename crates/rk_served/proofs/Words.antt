-- The words in which the lemmas speak: of std, of the libraries below, and of the definitions. A lemma file names those that it needs.
pub use Rattle.std.proofs.Common.{refl, ◌∙◌, ap, sym, List, ◌≡◌, [], subst, ℕ, inr, true, ◌∷◌, inl, ◌++◌, Bool, false, cond, not, length, arith, zero, suc, ◌⊎◌}
pub use Rattle.std.proofs.Common.{◌<◌, get_or, ◌&&◌, ◌≤◌, rules, ◌+◌, take, drop, append_assoc, ◌||◌, take-append-drop, ◌*◌, vec_len}
pub use Rattle.std.proofs.lemmas.Bool.{and_parts, not-true, false_from_ne_true, eq-eqb, eqb-true, not_from_false, cases_Bool, and_from, or_parts, or_left}
pub use Rattle.std.proofs.lemmas.Bool.{or_right, cond_both, cases_lt}
pub use Rattle.std.proofs.lemmas.List.{append-nil, set-get_or, reverse-append, set_past}
pub use Rattle.std.proofs.lemmas.List.Elements.{All-filter, Contains-append_left, Contains-append_right, Contains-push, All-nil, All-cons, All-head, All-tail}
pub use Rattle.std.proofs.lemmas.List.Elements.{All-set}
pub use Rattle.std.proofs.lemmas.List.Sorted.{IsPartitionPoint-from_clause, Contains-permutation}
pub use Rattle.std.proofs.lemmas.List.Sums.{AllPass-from_list_all, prefix_len_is, prefix_len-le-length, list_all-from_AllPass, sum_by-cons, sum_by-append}
pub use Rattle.std.proofs.lemmas.List.Sums.{sum_by-set, sum_by-take-drop, sum_by-drop_more, sum_by-le-sum_by}
pub use Rattle.std.proofs.lemmas.Option.{slice_get_read, same_Some, MatchOption-at_some, slice_get_within, get_or_from_slice_get, slice_get-get_or}
pub use Rattle.std.proofs.lemmas.Result.{on_ok_weaker}
pub use Rattle.std.specs.BinaryHeap.{heap_items}
pub use Rattle.std.specs.Bool.{MatchBool}
pub use Rattle.std.specs.FinMap.{get-empty}
pub use Rattle.std.specs.Global.{Vec}
pub use Rattle.std.specs.List.{Contains, remove, list_all, position_or_len, prefix_len, All, sum_by}
pub use Rattle.std.specs.List.Sorted.{IsPartitionedBy, IsPartitionPoint, IsPermutation}
pub use Rattle.std.specs.Ordering.{nat_cmp}
pub use Rattle.std.specs.Prelude.{Some, Option, None, slice_get, slice_set, is_some, nat_eq, option_map, IfSome, insert, slice_index_or, reverse, MatchOption}
pub use Rattle.std.specs.Prelude.{option_and_then, Result, Ok, Err, IfOk}
pub use Rattle.std.specs.declared.cmp.Reverse.{Reverse}
pub use Rattle.rk_names.specs.declared.errors.Errno.{Errno}
pub use Rattle.rk_names.specs.declared.numbers.SessionId.{SessionId}
pub use Rattle.rk_names.specs.declared.numbers.SessionId.TheVariants.{Handler, Client}
pub use Rattle.rk_auth.specs.Sessions.{stage_of, Sessions, wait_of, unspent, handler_in}
pub use Rattle.rk_auth.specs.declared.construction.Construction.{Construction}
pub use Rattle.rk_auth.specs.declared.construction.Stage.{Stage}
pub use Rattle.rk_auth.specs.declared.construction.Stage.TheVariants.{Starting, Plain, Piped, Negating}
pub use Rattle.rk_conf.specs.declared.line.Line.{Line}
pub use Rattle.rk_message.specs.Ask.{Ask}
pub use Rattle.rk_macro.specs.declared.subject.Subject.{Subject}
pub use Rattle.rk_machine.proofs.Effects.ClientsByStep.{ready_waits, is_client, client_after, clients, gains, collect_ends}
pub use Rattle.rk_machine.proofs.Effects.KindsOfStep.{effect}
pub use Rattle.rk_machine.proofs.Effects.StagesByStep.{kind_in, Kind, kind_of, to_start, talks, pipes, to_follow, kind, is_due, kind_after, kinds}
pub use Rattle.rk_machine.proofs.Effects.StagesByStep.{launched_kind}
pub use Rattle.rk_machine.proofs.Effects.UndrawnIsIdle.{IsIdle, idle_step, idle_fresh, start_draws, launch_kind}
pub use Rattle.rk_machine.proofs.Effects.WaitsAfter.{same-true, same-self, flag, flag_of}
pub use Rattle.rk_machine.proofs.Found.InMaps.{get_removed, get_inserted}
pub use Rattle.rk_machine.proofs.Found.Refusals.{unless, or_memory}
pub use Rattle.rk_machine.specs.Allowed.{done, Settles, refused_if, Leaves, Unless}
pub use Rattle.rk_machine.specs.Event.{Event}
pub use Rattle.rk_machine.specs.Laws.{same_session}
pub use Rattle.rk_machine.specs.Steps.{Beginning, Past, may_launch, open_refusal, would_negate, negating, Ends, Run}
unfoldable pub use Rattle.rk_machine.specs.Steps.{Step}
pub use Rattle.rk_machine.specs.Views.{has_wait, is_ready, is_owed, awaited, Peeks}
pub use Rattle.rk_machine.specs.World.{World}
pub use Rattle.rk_machine.specs.declared.event.Answer.{Answer}
pub use Rattle.rk_machine.specs.declared.event.Answer.TheVariants.{Start, Refused, Negate}
pub use Rattle.rk_machine.specs.declared.event.EventOf.TheVariants.{Launched, Gone, Opened, Ended, Collect, Asked}
pub use Rattle.rk_machine.specs.declared.event.How.{How}
pub use Rattle.rk_machine.specs.declared.event.How.TheVariants.{Fault}
pub use Rattle.rk_served.specs.Calls.{left_of, MovesOne, StartsNow, MovesNext, MovesSome, AnswersOne, RestsAt, is_refused, MakesOwnStep, IsStartAt}
pub use Rattle.rk_served.specs.Calls.{HasEnded, EndsOne, MovesBy, TriesAt}
pub use Rattle.rk_served.specs.Channels.{is_stream, is_open, IsNextAt, HasFaultAt, shut_channel, callout_of}
pub use Rattle.rk_served.specs.Commands.{IsCommand, looked_up}
pub use Rattle.rk_served.specs.Left.{Left, peer, without, Part, one_step, nothing, no_step, step, reply_to, replies_to}
pub use Rattle.rk_served.specs.Movers.{reversed}
pub use Rattle.rk_served.specs.Moves.{collects, refuses, asks, shuts_client, shuts_handler, Answered, puts_reply, starts_one, fails_to_start, Move, Moves}
pub use Rattle.rk_served.specs.Moves.{CannotMove, is_start, is_start as is_start_of, IsAtRest}
pub use Rattle.rk_served.specs.Order.{ServesInOrder, MovesFirst, MovesInOrder, ServesTurnInOrder}
pub use Rattle.rk_served.specs.OwnStep.{Adds, EndsBy, is_last, is_followed, is_not_followed, OwnStep, has_client, is_misplaced, negated, StepsBy, Lengthens}
pub use Rattle.rk_served.specs.OwnStep.{Runs, Follows, channel_with, is_running, callout_to, payload_in, whose}
pub use Rattle.rk_served.specs.Queued.{RestsBy, IsWatched, waiters_at, Stirs, StirsBy, PutsBack, Expects, Parks, IsMover, IsWaiter, Watches, IsWatchedBut, IsStill, IsKeyOf, own_key, Wakes}
pub use Rattle.rk_served.specs.Queued.{KeepsMovers, size}
pub use Rattle.rk_served.specs.Served.{Acts, Turn, outputs_of, ServesBy, Serves, ServedBy, steps_of, ServesNext, ServedIsRun}
pub use Rattle.rk_served.specs.Standing.{comes_before, are_in_order}
pub use Rattle.rk_served.specs.Streams.{no_bytes, closed, Takes}
pub use Rattle.rk_served.specs.Unused.{Unused}
pub use Rattle.rk_served.specs.WhoIsThere.{HasItsPeers, peer_of, are_apart, has_channel, fits_stage, has_peer, Sits}
pub use Rattle.rk_served.specs.declared.happening.Happening.{Happening}
pub use Rattle.rk_served.specs.declared.happening.StartResult.TheVariants.{Started, Failed}
pub use Rattle.rk_served.specs.declared.output.Output.{Output}
pub use Rattle.rk_served.specs.declared.peer.Channel.{Channel}
pub use Rattle.rk_served.specs.declared.peer.Channel.TheVariants.{Starts, Talks, Pipes}
pub use Rattle.rk_served.specs.declared.peer.Peer.{Peer}
pub use Rattle.rk_table.proofs.Entries.{shadow, swap_tests}
