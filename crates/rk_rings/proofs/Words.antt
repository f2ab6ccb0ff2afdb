-- The words in which the lemmas speak: of std, of the libraries below, and of the definitions. A lemma file names those that it needs.
pub use Rattle.indexmap.specs.IndexMap.{spare, index_map_len}
pub use Rattle.std.proofs.Common.{◌∙◌, ap, sym, ◌≡◌, subst, arith, ℕ, cond, ◌≤◌, false, ◌+◌, refl, true, Bool, ◌-◌, not, length, ◌<◌, List, [], ◌∷◌, ◌&&◌, ◌||◌}
pub use Rattle.std.proofs.Common.{ltb, inl, inr, zero, suc, fold, take, ◌*◌, lit≤, leb, ◌⊎◌, rules}
pub use Rattle.std.proofs.lemmas.Bool.{both_ways, eq-eqb, eqb-true, cases_eq, ne_eqb, lt-ltb, and_from, le-ltb, leb-false, not-false}
pub use Rattle.std.proofs.lemmas.Option.{none-some, same_Some}
pub use Rattle.std.specs.Cmp.{nat_cmp_total, unsigned_tied, both_ways as same_answer}
pub use Rattle.std.specs.FinMap.{get, len, insert, remove, empty, FinMap, contains_key, get-empty, len-remove, len-insert, entries, same_map}
pub use Rattle.std.specs.FinMap.{nat_cmp-IsAntisymmetric, len-empty, find, get-entries, len-entries, values, get-remove, get-insert}
pub use Rattle.std.specs.List.{list_any, AllByRecursion}
pub use Rattle.std.specs.Map.{lookup}
pub use Rattle.std.specs.Option.{option_map_or, option_map, option_copied, option_copied_mut}
pub use Rattle.std.specs.Ordering.{nat_cmp, eq_by_cmp}
pub use Rattle.std.specs.Prelude.{None, Some, nat_eq, is_some, Option, unwrap_or, MatchOption, map as list_map}
pub use Rattle.rk_lemmas.proofs.Maps.{map_not_empty, set_not_empty}
pub use Rattle.rk_table.proofs.CountsAt.{count_become, count_by, positive_empty, count_put}
pub use Rattle.rk_table.proofs.Entries.{tie, get_in, of_choice, find_mapped, shadow}
pub use Rattle.rk_table.proofs.Gets.{get_kept_where, get_changed_at, get_inserted, at_new, at_other, taken_out, get_removed, none_kept, left_in}
pub use Rattle.rk_table.proofs.Gets.{contains_key_changed_at}
pub use Rattle.rk_table.proofs.Once.{HasEachOnce, FindsEntry, entries_once}
pub use Rattle.rk_table.specs.Counts.{count_at, ArePositive}
pub use Rattle.rk_table.specs.Maps.{changed_at, kept_where}
pub use Rattle.rk_table.specs.Stored.{places, Stored}
pub use Rattle.rk_names.specs.Numbers.{serial_of}
pub use Rattle.rk_rings.specs.ByName.{named, AreByName, turned_more, with_name, IsTurned}
pub use Rattle.rk_rings.specs.Counted.{AreCounted, links_of}
pub use Rattle.rk_rings.specs.Counting.{counting, seen_counts}
pub use Rattle.rk_rings.specs.Making.{with_entries, HasEachNew}
pub use Rattle.rk_rings.specs.Numbered.{AreSerials, Numbered, Rings, unlinked, new_ring, HasEachNameOnce, HaveEachNameOnce, is_full, linked_in_room, holds}
pub use Rattle.rk_rings.specs.Numbered.{is_held, linked, cleared, IsMatch, links_with, with_rings, AreNew, has_number, rings_seen, is_user_ring, is_full_at}
pub use Rattle.rk_rings.specs.Numbered.{ring_seen}
pub use Rattle.rk_rings.specs.Ring.{Ring, empty_ring, is_linked, has_link, with_link, without_link, is_users}
pub use Rattle.rk_rings.specs.UserRings.{AreUserRings, is_his, IsHis}
pub use Rattle.rk_rings.specs.declared.kind.NewRing.{NewRing}
