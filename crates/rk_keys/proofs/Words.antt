-- The words in which the lemmas speak: of std, of the libraries below, and of the definitions. A lemma file names those that it needs.
pub use Rattle.std.proofs.Common.{◌∙◌, ap, ◌≡◌, refl, sym, ℕ, subst, ◌<◌, false, cond, arith, List, ◌-◌, ◌≤◌, true, Bool, ◌+◌, suc, inl, inr, not, zero, ◌||◌}
pub use Rattle.std.proofs.Common.{[], ◌∷◌, ◌++◌, filter, ◌^◌, add-one, ◌&&◌, length, ◌*◌, ltb, min, get_or, set, take, drop, rules}
pub use Rattle.std.proofs.Math.Bool.{or-true}
pub use Rattle.std.proofs.lemmas.Bool.{both_ways, eq-eqb, ne_eqb, eqb-true, or_parts, cases_eq, false_from_ne_true, and_parts, and_from, ltb-false, ltb-true}
pub use Rattle.std.proofs.lemmas.Bool.{true_from_ne_false}
pub use Rattle.std.proofs.lemmas.Bool.Decides.{nat_tests}
pub use Rattle.std.proofs.lemmas.Option.{none-some, same_Some}
pub use Rattle.std.proofs.lemmas.Slice.Eq.{bytes_eq-Decides}
pub use Rattle.std.specs.Cmp.{nat_cmp_total, nat_eq_equiv, both_ways as same_answer}
pub use Rattle.std.specs.FinSet.{contains, contains-insert, insert}
pub use Rattle.std.specs.Option.{option_map_or, option_or, option_copied}
pub use Rattle.std.specs.Ordering.{nat_cmp, eq_by_cmp}
pub use Rattle.std.specs.Prelude.{Some, None, Option, nat_eq, unwrap_or, map as list_map, is_some, option_map, find as list_find, ◌==◌, nat_le, IfSome}
pub use Rattle.std.specs.Prelude.{bytes_eq, MatchOption, Result, Ok, Err, OnOk, OnErr}
pub use Rattle.rk_lemmas.proofs.Options.{passing}
pub use Rattle.rk_table.proofs.Entries.{tie, of_choice, shadow}
pub use Rattle.rk_table.proofs.Gets.{get_changed_at, at_new, taken_out, at_other, left_in, contains_key_changed_at, get_kept_where, none_kept, get_inserted}
pub use Rattle.rk_table.proofs.Gets.{get_removed}
pub use Rattle.rk_table.proofs.KeptCounts.{kept_len-empty, kept_len-insert, kept_len-remove, kept_len-remove_none, kept_len-changed}
pub use Rattle.rk_table.specs.Maps.{changed_at, kept_where}
pub use Rattle.rk_table.specs.Says.{Says}
pub use Rattle.rk_keys.specs.Buckets.{names_at, first_changed, IsFirst, one_more, one_fewer, with_one_fewer, is_empty, is_of, kept_of, counted_in, name_hash, is_same, count_of, counted_out, IsIndex, number_in}
pub use Rattle.rk_keys.specs.Buckets.{keys_named, fed_words}
pub use Rattle.rk_keys.specs.Drawing.{drawn_in_order, first_of_form, not_below, len-first_of_form}
pub use Rattle.rk_keys.specs.Key.{has_name, have_one_name, is_named}
pub use Rattle.rk_keys.specs.Known.{Known, IsHeld, concluded, IsNaming, marked, timed, has_all_keys, keys_of, with_key_changed, without_key, IsRefused, new_key}
pub use Rattle.rk_keys.specs.Names.{IsNumberFor}
pub use Rattle.rk_keys.specs.Owners.{AreCounts}
pub use Rattle.rk_keys.specs.Serials.{Drawn, IsNext, with_drawn, HasSerials, IsDrawable, HasFrom, Extends, IsFresh}
pub use Rattle.rk_keys.specs.declared.key.Condition.{Condition}
pub use Rattle.rk_keys.specs.declared.key.Key.{Key}
pub use Rattle.rk_keys.specs.declared.named.Named.{Named}
