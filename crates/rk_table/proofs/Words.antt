-- The words in which the lemmas speak: of std, of the libraries below, and of the definitions. A lemma file names those that it needs.
pub use Rattle.std.proofs.Common.{◌∙◌, ap, sym, ◌≡◌, cond, subst, ℕ, refl, true, false, arith, ◌<◌, Bool, List, [], ◌∷◌, length, ◌+◌, get_or, inl, inr, zero}
pub use Rattle.std.proofs.Common.{suc, ◌-◌, rules, not, ◌≢◌, ◌≤◌, set, ◌++◌, drop, add-one, drop-cons, Result, Ok, Err, IfOk, IfErr, ◌||◌, take, fold, T, ◌&&◌}
pub use Rattle.std.proofs.lemmas.Bool.{eq-eqb, ne_eqb, eqb-true, cases_eq, cases_lt, both_ways}
pub use Rattle.std.proofs.lemmas.Option.{none-some, same_Some}
pub use Rattle.std.specs.Cmp.{nat_cmp_total, unsigned_tied, nat_eq_equiv, nat_cmp_is}
pub use Rattle.std.specs.FinMap.{FinMap, get, nat_cmp-IsAntisymmetric, from_entries, insert, find, same_map, remove, get-retain_keys, entries, get-entries}
pub use Rattle.std.specs.FinMap.{get-remove, get-insert, len, get-from_entries, retain_keys, from_entries_push, contains_key, empty, len-empty, len-insert}
pub use Rattle.std.specs.FinMap.{entries-insert, len-entries, is_sorted, entries_sorted}
pub use Rattle.std.specs.FinMap.Entries.{find-where_key, put, by_order, below_all}
pub use Rattle.std.specs.List.{list_any, insert as insert_at, remove as remove_at, AllByRecursion}
unfoldable pub use Rattle.std.specs.List.{IsDistinct}
pub use Rattle.std.specs.Map.{lookup, keys_of}
pub use Rattle.std.specs.Option.{option_map_or, option_copied_mut}
pub use Rattle.std.specs.Ordering.{nat_cmp, eq_by_cmp, ordering_index, is_eq, is_lt}
pub use Rattle.std.specs.Prelude.{Some, None, nat_eq, Option, is_some, option_map, filter, map as list_map, unwrap_or, find as list_find, MatchOption}
pub use Rattle.std.specs.declared.cmp.Ordering.{Ordering}
pub use Rattle.rk_table.specs.Counts.{count_at, ArePositive}
pub use Rattle.rk_table.specs.Entries.{KeysRise, IsGapFor, IsAt, AreAbove}
pub use Rattle.rk_table.specs.Maps.{changed_at, kept_where, changed_all}
pub use Rattle.rk_table.specs.Stored.{places}
