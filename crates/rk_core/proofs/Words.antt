-- The words in which the proofs speak: of std, of the libraries below, and of the definitions. A file names those that it needs.
pub use Rattle.std.proofs.Common.{◌≡◌, Bool, true, false, cond, not, ◌+◌, sym, ap, ◌∙◌, refl, ℕ, ◌≤◌, subst, List, w32, ◌||◌, to_z, of_z, [], rules, ◌∷◌, inl}
pub use Rattle.std.proofs.Common.{inr, ◌⊎◌, ◌&&◌, zero, suc, ◌-◌, ◌<◌, arith, ◌++◌}
pub use Rattle.std.proofs.lemmas.Bool.{both_ways, eqb-true, eq-eqb, ne_eqb, and_parts}
pub use Rattle.std.proofs.lemmas.Cmp.{nat_eq_equiv}
pub use Rattle.std.proofs.lemmas.Int.{to_z-of_z}
pub use Rattle.std.proofs.lemmas.List.{append-nil}
pub use Rattle.std.proofs.lemmas.List.Folds.{list_any-append}
pub use Rattle.std.proofs.lemmas.Result.{err_from_is_err_and}
pub use Rattle.std.proofs.lemmas.Slice.Eq.{bytes_eq-Decides}
pub use Rattle.std.specs.Bool.{MatchBool}
pub use Rattle.std.specs.Cmp.{nat_cmp_total}
pub use Rattle.std.specs.List.{list_any}
pub use Rattle.std.specs.Option.{option_map_or, option_copied}
pub use Rattle.std.specs.Ordering.{nat_cmp, eq_by_cmp}
pub use Rattle.std.specs.Prelude.{is_none, Option, ◌↔◌, IsTrue, Some, None, unwrap_or, nat_eq, option_map, MatchOption, is_some, MatchResult, Result}
pub use Rattle.std.specs.Prelude.{if◌then◌else◌, Ok, Err, OnOk, OnErr, ⊤, IfErr, nat_le, IfSome, bytes_eq, option_and_then, option_to_list, find, ℤ}
pub use Rattle.rk_auth.specs.Changes.{session_changed, with_context, spent, all_told, without_client, with_wait, new_wait, with_setting, with_assumed}
pub use Rattle.rk_auth.specs.Changes.{with_construction, in_handler, in_new_stage, without_authority, without_construction, told}
pub use Rattle.rk_auth.specs.Circles.{Leads, its_own, further}
pub use Rattle.rk_auth.specs.Sessions.{Sessions, new_session, unspent, is_shared, stage_of, is_running, session_of, handler_in}
pub use Rattle.rk_auth.specs.declared.construction.Authority.{Authority}
pub use Rattle.rk_auth.specs.declared.construction.Construction.{Construction}
pub use Rattle.rk_auth.specs.declared.construction.Stage.{Stage}
pub use Rattle.rk_auth.specs.declared.construction.Stage.TheVariants.{Plain, Piped, Negating, Starting}
pub use Rattle.rk_auth.specs.declared.session.Outcome.{Outcome}
pub use Rattle.rk_auth.specs.declared.session.Session.{Session}
pub use Rattle.rk_core.specs.Finding.{answer_of, session_refusal, is_hello, is_first, new_key_ring}
pub use Rattle.rk_core.specs.Follows.{follows}
pub use Rattle.rk_core.specs.NewRings.{with_all, AreAllNew, with_new_rings, AreNewRings, MakesOr, IsUserRing}
pub use Rattle.rk_core.specs.Numbering.{world_of, NumbersAgree}
pub use Rattle.rk_core.specs.Sought.{IsSole, IsSought, IsNumberOf, matched, error_in}
pub use Rattle.rk_core.specs.Sound.{IsSound}
pub use Rattle.rk_core.specs.Vanishing.{StayBut, vanished_at, rival_in, without_ring, without_if, stays, removed_if, session_goes}
pub use Rattle.rk_core.specs.declared.search.Match.{Match}
pub use Rattle.rk_core.specs.declared.search.Missed.{Missed}
pub use Rattle.rk_core.specs.declared.search.Sought.{Sought}
pub use Rattle.rk_core.specs.declared.wanted.Names.{Names}
pub use Rattle.rk_keys.specs.Key.{is_rival, key_passes, has_name, standing_of, is_named, is_building, builds, is_past, stands_by}
pub use Rattle.rk_keys.specs.Known.{new_key, Known, concluded, IsNaming, without_key}
pub use Rattle.rk_keys.specs.Serials.{HasSerials, Drawn, IsFresh, with_drawn}
pub use Rattle.rk_keys.specs.declared.key.Condition.{Condition}
pub use Rattle.rk_keys.specs.declared.key.Condition.TheVariants.{Negative}
pub use Rattle.rk_keys.specs.declared.key.Key.{Key}
pub use Rattle.rk_keys.specs.declared.key.Standing.{Standing}
pub use Rattle.rk_machine.proofs.Effects.AuthoritiesAfter.{unspent_changed, unspent_launched, unspent_concluded, unspent_ended, unspent_issued}
pub use Rattle.rk_machine.proofs.Effects.BuildingAfter.{built_at, built_in, built_tidied, built_put, built_marked, built_concluded}
pub use Rattle.rk_machine.proofs.Effects.DrawnSerials.{is_drawn, drawn_is}
pub use Rattle.rk_machine.proofs.Effects.HelloChanges.{greeted_sessions, greeted_keys}
pub use Rattle.rk_machine.proofs.Effects.KindsOfStep.{Effect, authority_for, refused, still, took, came, went, greets, begins, joins, links, unlinks, marks}
pub use Rattle.rk_machine.proofs.Effects.KindsOfStep.{tells, sets, adds, assumes, concludes, ran_plain, ran_piped, negates, failed, finished, effect, IsMild}
pub use Rattle.rk_machine.proofs.Effects.SerialsStayDrawn.{keeps_drawn, KeepsDrawn, if_drawn, session_drawn, user_drawn}
pub use Rattle.rk_machine.proofs.EveryRun.KeepsLaws.{continues}
pub use Rattle.rk_machine.proofs.Found.InMaps.{get_changed_at, get_inserted, get_removed, get_kept_where, get_changed_all}
pub use Rattle.rk_machine.proofs.Found.Refusals.{unless_some, only_one, unless_none, or_left, or_right}
pub use Rattle.rk_machine.specs.Allowed.{first_of, refused_if, Tells, Unless, done, OrNoMemory}
pub use Rattle.rk_machine.specs.Asker.{ring_for, ring_or_none_refusal, serial_named, own_refusal, is_reached, asker_of}
pub use Rattle.rk_machine.specs.Asks.{gate, ask_refusal, Asking, completion_refusal}
unfoldable pub use Rattle.rk_machine.specs.Asks.{Completes}
pub use Rattle.rk_machine.specs.Completion.{completed, outcome_of, announced, ended, keys_ended, expiry_after, condition_after, sessions_ended}
pub use Rattle.rk_machine.specs.Event.{Event}
pub use Rattle.rk_machine.specs.Hello.{MakesIf, HasSessionRing, HasUserRing, Makes, has_user_ring, rings_made, MakesRings}
pub use Rattle.rk_machine.specs.KeyAsks.{add_refusal, Reads, is_authority, TellsCallout, ReadsKey, with_key_changed, serial_in}
unfoldable pub use Rattle.rk_machine.specs.KeyAsks.{Adds}
pub use Rattle.rk_machine.specs.Links.{full_refusal, linked_in, rings_changed, is_full_for, cleared_in, unlinked_in, is_full_at, is_full, holds_name}
pub use Rattle.rk_machine.specs.Request.{waiting, subject_of, started, new_authority, query, Meets, Misses, with_key, start_refusal, destination_of, Begins}
pub use Rattle.rk_machine.specs.Request.{MeetsBuilding, MeetsPositive}
unfoldable pub use Rattle.rk_machine.specs.Request.{Requests}
pub use Rattle.rk_machine.specs.Search.{Query, answers, Hits, is_live, is_hit, has_match, same_error, blocks, is_stale, errors, block_of}
pub use Rattle.rk_machine.specs.Steps.{launched, Past, Run, context_of, is_ring, goes_with, rings_without, gone, may_launch, would_negate, negating, Ends}
unfoldable pub use Rattle.rk_machine.specs.Steps.{Step}
pub use Rattle.rk_machine.specs.Views.{positive, Peeks}
pub use Rattle.rk_machine.specs.World.{tidied, World, drawn, empty_world}
pub use Rattle.rk_machine.specs.declared.asker.Asker.{Asker}
pub use Rattle.rk_machine.specs.declared.event.Answer.{Answer}
pub use Rattle.rk_machine.specs.declared.event.Answer.TheVariants.{Start, Done, Refused, Negate}
pub use Rattle.rk_machine.specs.declared.event.EventOf.TheVariants.{Asked, Launched, Ended}
pub use Rattle.rk_machine.specs.declared.event.How.{How}
pub use Rattle.rk_machine.specs.declared.event.Ran.{Ran}
pub use Rattle.rk_macro.specs.declared.subject.Subject.{Subject}
pub use Rattle.rk_message.specs.Ask.{Ask}
pub use Rattle.rk_message.specs.declared.greeting.Greeting.{Greeting}
pub use Rattle.rk_names.specs.Numbers.{key_errno}
pub use Rattle.rk_names.specs.declared.context.Context.{Context}
pub use Rattle.rk_names.specs.declared.errors.Errno.{Errno}
pub use Rattle.rk_names.specs.declared.errors.KeyError.{KeyError}
pub use Rattle.rk_names.specs.declared.numbers.SessionId.{SessionId}
pub use Rattle.rk_names.specs.declared.numbers.SessionId.TheVariants.{Client, Handler}
pub use Rattle.rk_rings.proofs.Changed.{ring_there}
pub use Rattle.rk_rings.proofs.Counts.{some_key, one_less}
pub use Rattle.rk_rings.proofs.Finds.{any_value, some_entry, entry_found, tied, tied_itself}
pub use Rattle.rk_rings.proofs.Named.{new_or_there, left_there, no_link}
pub use Rattle.rk_rings.proofs.Seen.{is_linked-rings_seen, contains_key-rings_seen, has_link-rings_seen, get-rings_seen, rings_seen-empty}
pub use Rattle.rk_rings.proofs.Seen.{rings_seen-changed_at, ring_seen-linked, contains-ring_seen, len-ring_seen, rings_seen-remove, ring_seen-unlinked}
pub use Rattle.rk_rings.proofs.Seen.{GivesWay, rings_seen-insert, ring_seen-new_ring}
pub use Rattle.rk_rings.proofs.SeenPlaces.{default_ring-rings_seen, ring_at-rings_seen, is_numbered_live-rings_seen}
pub use Rattle.rk_rings.specs.Numbered.{Numbered, ring_seen, holds, rings_seen, Rings, AreNew, is_held, linked, unlinked, new_ring, with_rings, has_number}
pub use Rattle.rk_rings.specs.Numbered.{IsMatch, is_user_ring}
pub use Rattle.rk_rings.specs.Places.{default_ring, rings_of, ring_at, is_numbered_live}
pub use Rattle.rk_rings.specs.Ring.{is_linked, has_link, Ring, with_link, without_link, without_links, empty_ring, is_users}
pub use Rattle.rk_rings.specs.declared.fault.RingFault.{RingFault}
pub use Rattle.rk_rings.specs.declared.kind.NewRing.{NewRing}
pub use Rattle.rk_rings.specs.declared.kind.RingKind.{RingKind}
pub use Rattle.rk_table.proofs.Entries.{tie}
pub use Rattle.rk_table.specs.Maps.{changed_at, kept_where, changed_all}
pub use Rattle.rk_table.specs.Says.{Says}
