-- The words in which the lemmas speak: of std, of the libraries below, of the definitions, and of `Found`. A lemma file names those that it needs.
pub use Rattle.std.proofs.Common.{◌≡◌, ℕ, ◌∙◌, ◌||◌, ◌⊎◌, ◌&&◌, ◌<◌, ◌∷◌, ◌+◌, ◌≤◌, Bool, true, false, cond, refl, ap, sym, not, inl, inr, arith, subst, List}
pub use Rattle.std.proofs.Common.{[], zero-le, length, zero, suc, T}
pub use Rattle.std.specs.Bool.{MatchBool}
pub use Rattle.std.specs.Cmp.{nat_cmp_total, nat_eq_equiv}
pub use Rattle.std.specs.FinMap.Entries.{below_all}
pub use Rattle.std.specs.List.{list_any}
pub use Rattle.std.specs.Option.{option_map_or}
pub use Rattle.std.specs.Ordering.{nat_cmp, is_lt, is_eq}
pub use Rattle.std.specs.Prelude.{ℤ, ◌==◌, Option, Some, None, nat_eq, is_some, option_map, option_and_then, unwrap_or, is_none, pos, negsuc, nat_le}
pub use Rattle.std.specs.Prelude.{MatchOption}
pub use Rattle.std.specs.declared.cmp.Ordering.{Ordering}
pub use Rattle.std.specs.declared.cmp.Ordering.TheVariants.{Less, Equal, Greater}
pub use Rattle.std.proofs.Math.Nat.{le-pred_of_lt}
pub use Rattle.std.proofs.lemmas.Bool.{eqb-true, eq-eqb, ne_eqb, leb-false}
pub use Rattle.rk_names.specs.Numbers.{key_errno}
pub use Rattle.rk_names.specs.Settings.{setting_number}
pub use Rattle.rk_names.specs.declared.context.Context.{Context}
pub use Rattle.rk_names.specs.declared.context.Setting.{Setting}
pub use Rattle.rk_names.specs.declared.errors.Errno.{Errno}
pub use Rattle.rk_names.specs.declared.numbers.SessionId.{SessionId}
pub use Rattle.rk_names.specs.declared.numbers.SessionId.TheVariants.{Client, Handler}
pub use Rattle.rk_table.specs.Maps.{changed_at, kept_where}
pub use Rattle.rk_table.specs.Says.{Says}
pub use Rattle.rk_table.proofs.Entries.{tie}
pub use Rattle.rk_macro.specs.declared.subject.Subject.{Subject}
pub use Rattle.rk_message.specs.Ask.{Ask}
pub use Rattle.rk_message.specs.declared.reply.Reply.{Reply}
pub use Rattle.rk_message.specs.declared.reply.Reply.TheVariants.{Number, Bytes, Rings}
pub use Rattle.rk_keys.specs.Key.{key_passes, is_building, builds, is_past}
pub use Rattle.rk_keys.specs.Known.{concluded, new_key, marked, timed}
pub use Rattle.rk_keys.specs.Serials.{IsFresh}
pub use Rattle.rk_keys.specs.declared.key.Condition.{Condition}
pub use Rattle.rk_keys.specs.declared.key.Condition.TheVariants.{Building, Positive, Negative}
pub use Rattle.rk_keys.specs.declared.key.Key.{Key}
pub use Rattle.rk_rings.specs.Places.{is_one_of, live}
pub use Rattle.rk_rings.specs.Ring.{Ring, has_link, empty_ring, is_sessions, without_link, without_links}
pub use Rattle.rk_rings.specs.declared.kind.RingKind.{RingKind}
pub use Rattle.rk_auth.specs.Changes.{session_changed, in_handler, in_new_stage, spent, without_authority, without_construction, with_construction, all_told}
pub use Rattle.rk_auth.specs.Changes.{told, with_context, ready_outcome, with_client, without_client, with_wait, with_setting, with_assumed, in_stage, new_wait}
pub use Rattle.rk_auth.specs.Changes.{told_wait}
pub use Rattle.rk_auth.specs.Circles.{Leads, its_own, further}
pub use Rattle.rk_auth.specs.Sessions.{Sessions, unspent, new_session, wait_of, session_of, stage_of, is_to_launch, assumed_authority, handler_in, is_starting}
pub use Rattle.rk_auth.specs.Sessions.{is_shared, is_running}
pub use Rattle.rk_auth.specs.declared.construction.Authority.{Authority}
pub use Rattle.rk_auth.specs.declared.construction.Construction.{Construction}
pub use Rattle.rk_auth.specs.declared.construction.Stage.{Stage}
pub use Rattle.rk_auth.specs.declared.construction.Stage.TheVariants.{Starting, Plain, Piped, Negating}
pub use Rattle.rk_auth.specs.declared.session.Outcome.{Outcome}
pub use Rattle.rk_auth.specs.declared.session.Outcome.TheVariants.{Found, Failed}
pub use Rattle.rk_auth.specs.declared.session.Session.{Session}
pub use Rattle.rk_auth.specs.declared.session.Wait.{Wait}
pub use Rattle.rk_machine.specs.Allowed.{refused_if, done, first_of, Leaves, Settles, Unless}
pub use Rattle.rk_machine.specs.Asker.{Asker, asker_of, serial_named, ring_for, ring_refusal, ring_or_none_refusal, key_refusal, own_refusal, client_asker}
pub use Rattle.rk_machine.specs.Asker.{assumed_asker, handler_asker}
pub use Rattle.rk_machine.specs.Asks.{gate, ask_refusal, assume_refusal, completion_refusal, Acting, Asking}
pub use Rattle.rk_machine.specs.Completion.{announced, outcome_of, sessions_ended, keys_ended, ended, completed, condition_after, outcome_by, expiry_after}
pub use Rattle.rk_machine.specs.Event.{Event}
pub use Rattle.rk_machine.specs.Hello.{Greeting, Makes, MakesIf, HasSessionRing, HasUserRing, MakesRings, join_refusal, Greets, hello_refusal}
pub use Rattle.rk_machine.specs.KeyAsks.{serial_in, TellsOf, TellsCallout, ReadsKey, with_key_changed, setting_asked, is_authority, read_refusal}
pub use Rattle.rk_machine.specs.KeyAsks.{revoke_refusal, timeout_refusal, link_refusal, unlink_refusal, add_refusal}
pub use Rattle.rk_machine.specs.Laws.{is_done, same_session, is_wait_ended, completes, Root, goes, starter_in, hello_in, starts_by, negates_by, launches, ends}
pub use Rattle.rk_machine.specs.Laws.{completes_by, assumed_at, is_waiting, EffectiveOrMisuse, EachEffectiveOrMisuse, Lawful, ContinuesTo, root_of, holds}
pub use Rattle.rk_machine.specs.Laws.{HasRoot, Rooted, EachRooted, Shows, waited, WaitsFor, at_once, further as and_further, NoCircle, NeverCircle, starter_of}
pub use Rattle.rk_machine.specs.Laws.{start_depth, NotDeep, NeverDeep, happened, never, is_start, is_launch, is_negate, since_negate, is_ending, is_completion}
pub use Rattle.rk_machine.specs.Laws.{OnceFor, EachOnce, EachToldOf, IsOutcome, EachOutcome, last_assumed, EachOwn}
pub use Rattle.rk_machine.specs.Links.{unlinked_in, cleared_in, linked_in, full_refusal, rings_changed}
pub use Rattle.rk_machine.specs.Owing.{is_request, is_followed, whose, client_owes, stage_owes, construction_owes, owed, owed_to, start_owes, constructions}
pub use Rattle.rk_machine.specs.Owing.{begun, closes, closed, ends_owed, ends_owed_to, construction_ends, stage_ends, start_ends, takes, asked_of, names_in}
pub use Rattle.rk_machine.specs.Owing.{wait_owes, places, need, is_ask, wait_made}
pub use Rattle.rk_machine.specs.Recording.{Reached, IsOwedAnswer, Recording}
pub use Rattle.rk_machine.specs.Request.{query, waiting, MeetsBuilding, MeetsPositive, Meets, Misses, start_refusal, destination_of, subject_of}
pub use Rattle.rk_machine.specs.Request.{started, with_key, new_authority}
pub use Rattle.rk_machine.specs.Search.{Query, block_of}
pub use Rattle.rk_machine.specs.Steps.{collected, open_refusal, opened, may_launch, would_negate, negating, Ends, told_as, gone, context_of, goes_with}
pub use Rattle.rk_machine.specs.Steps.{Past, Beginning, Run, is_ring}
pub use Rattle.rk_machine.specs.Views.{is_ready, has_wait, awaited, is_owed}
pub use Rattle.rk_machine.specs.Weights.{weight, weight_in}
pub use Rattle.rk_machine.specs.World.{World, tidied, drawn, empty_world}
pub use Rattle.rk_machine.specs.declared.event.Answer.{Answer}
pub use Rattle.rk_machine.specs.declared.event.Answer.TheVariants.{Done, Start, Waiting, Refused, Negate}
pub use Rattle.rk_machine.specs.declared.event.EventOf.TheVariants.{Opened, Asked, Launched, Ended, Collect, Gone}
pub use Rattle.rk_machine.specs.declared.event.How.{How}
pub use Rattle.rk_machine.specs.declared.event.How.TheVariants.{Exit}
pub use Rattle.rk_machine.specs.declared.event.Ran.{Ran}
pub use Rattle.rk_machine.proofs.Found.AllEntries.{some_entry, no_entry}
pub use Rattle.rk_machine.proofs.Found.InMaps.{get_inserted, get_removed, get_changed_at, get_changed_all, get_kept_where}
pub use Rattle.rk_machine.proofs.Found.Options.{true_false, of_choice, none_some, some_same, was_some, some_none}
pub use Rattle.rk_machine.proofs.Found.Refusals.{by_option, or_left, or_right, not_not, if_none, none_is, first_none, unless, or_memory, and_false, and_left, some_is}
-- those that a proof opens
unfoldable pub use Rattle.rk_machine.specs.Request.{Requests}
unfoldable pub use Rattle.rk_machine.specs.Asks.{Completes}
unfoldable pub use Rattle.rk_machine.specs.KeyAsks.{Adds}
unfoldable pub use Rattle.rk_machine.specs.Hello.{Hellos}
unfoldable pub use Rattle.rk_machine.specs.Steps.{Step}
