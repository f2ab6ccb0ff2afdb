-- The words in which the proofs speak: of std, of the libraries below, and of the definitions. A file names those that it needs.
pub use Rattle.std.proofs.Common.{◌≡◌, ℕ, ◌+◌, ◌-◌, ◌<◌, ◌≤◌, ◌^◌, true, false, List, [], length, take, drop, get_or, refl, ap, subst, inl, inr, arith, ◌≢◌}
pub use Rattle.std.proofs.Common.{Bool, ◌∷◌, ◌++◌, ◌==◌, map, sym, ◌∙◌, Bor, append-nil, length-append, Option, Some, None, rules, string_bytes}
pub use Rattle.std.proofs.lemmas.Bool.{eqb-true, eqb-false}
pub use Rattle.std.proofs.lemmas.Grind.{flat_map-append}
pub use Rattle.std.proofs.lemmas.List.{take_all, take_more, map-append, length-map, take-append-drop, drop_more, append_assoc, map_more, map_push}
pub use Rattle.std.proofs.lemmas.List.Concat.{flat_map-cons}
pub use Rattle.std.proofs.lemmas.List.Elements.{filter-append}
pub use Rattle.std.proofs.lemmas.List.Sorted.{answers_always}
pub use Rattle.std.proofs.lemmas.Option.{slice_get_within, slice_get_read}
pub use Rattle.std.proofs.lemmas.Result.{err_from_is_err_and}
pub use Rattle.std.proofs.lemmas.Slice.Zip.{all_zipped_more}
pub use Rattle.std.specs.List.{flat_map, filter, AllByRecursion}
pub use Rattle.std.specs.List.Sorted.{IsPermutation, IsSortedByKey}
pub use Rattle.std.specs.Prelude.{◌⊎◌}
pub use Rattle.rk_core.specs.declared.limits.Limits.{Limits}
pub use Rattle.rk_hall.specs.Locked.{first_serial}
pub use Rattle.rk_machine.specs.Laws.{ContinuesTo}
pub use Rattle.rk_machine.specs.World.{World, empty_world}
pub use Rattle.rk_record.specs.HallNumbers.{hall_number}
pub use Rattle.rk_record.specs.Record.{past_of}
pub use Rattle.rk_record.specs.Volumes.{IsBrokenAt, Breaks, counted}
pub use Rattle.rk_record.specs.declared.hall_no.HallNo.{HallNo}
pub use Rattle.rk_record.specs.declared.recorded.Recorded.{Recorded}
pub use Rattle.rk_record.specs.declared.rejoin_fault.Rejoin.{Rejoin}
pub use Rattle.rk_rejoin.specs.Chains.{run_of, run_of_first, no_sum, link_of, is_closed, IsTied}
unfoldable pub use Rattle.rk_rejoin.specs.Chains.{last_link, AreChained}
pub use Rattle.rk_rejoin.specs.Disk.{Reading, Reads, ReadsOne, and_then}
pub use Rattle.rk_rejoin.specs.Judged.{steps_of, of_hall, joined, beginning, negative_of, AreClosedAlike, IsRecordOf, part_of}
unfoldable pub use Rattle.rk_rejoin.specs.Judged.{AreNext}
pub use Rattle.rk_rejoin.specs.Read.{AreOfFiles, AreRead, IsVolumeIn, rank_cmp, rank_of}
pub use Rattle.rk_rejoin.specs.Refused.{IsNoNext, CannotJoin, NamesStep, IsBroken, IsHallRefused, IsRefusedFor, IsUntied, IsUnchained, IsOpenOf, IsOpenBeside}
pub use Rattle.rk_rejoin.specs.Rejoined.{AreRejoined}
pub use Rattle.rk_rejoin.specs.Unread.{AreRefused, AreUnread, IsNoVolumeIn}
pub use Rattle.rk_rejoin.specs.declared.files_fault.FilesFault.{FilesFault}
pub use Rattle.rk_rejoin.specs.declared.files_fault.FilesFault.TheVariants.{NoMemory}
pub use Rattle.rk_rejoin.specs.declared.part.Total.{Total}
pub use Rattle.rk_rejoin.specs.declared.verdict.Verdict.{Verdict}
pub use Rattle.rk_rejoin.specs.declared.verdict.Verdict.TheVariants.{Broken}
pub use Rattle.rk_volumes.specs.declared.stored.Stored.{Stored}
