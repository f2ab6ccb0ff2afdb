-- The words in which the lemmas speak: of std, of the libraries below, and of the definitions. A lemma file names those that it needs.
pub use Rattle.std.proofs.Common.{◌∙◌, ap, sym, ◌≡◌, subst, refl, ℕ, cond, arith, true, false, inl, inr, ◌||◌, Bool, List, ◌∷◌, [], ◌-◌, ◌⊎◌, ◌<◌, ◌≤◌, length}
pub use Rattle.std.proofs.Common.{◌+◌, zero, suc, get_or, zero-add}
pub use Rattle.std.proofs.lemmas.Bool.{both_ways, cases_eq, eq-eqb, ne_eqb, eqb-true}
pub use Rattle.std.proofs.lemmas.Option.{none-some, same_Some}
pub use Rattle.std.specs.Cmp.{nat_cmp_total}
pub use Rattle.std.specs.FinMap.{get, FinMap, remove, insert, len, get-empty, empty_of_len, len-remove, find, same_map, nat_cmp-IsAntisymmetric, empty}
pub use Rattle.std.specs.FinMap.{len-empty, entries, get-entries, len-entries, from_entries, get-remove, contains_key}
pub use Rattle.std.specs.Option.{option_map_or, option_copied, option_copied_mut}
pub use Rattle.std.specs.Ordering.{nat_cmp}
pub use Rattle.std.specs.Prelude.{Some, None, nat_eq, is_some, Option, option_map, option_and_then, map as list_map, IsSome, OnSome, IfNone, unwrap_or}
pub use Rattle.rk_table.proofs.Entries.{get_in, tie, get_changed_all, of_choice, find_mapped, shadow}
pub use Rattle.rk_table.proofs.Gets.{at_new, at_other, left_in, taken_out, get_changed_at, get_inserted, get_removed}
pub use Rattle.rk_table.specs.Maps.{changed_at, changed_all}
pub use Rattle.rk_table.specs.Says.{Says}
pub use Rattle.rk_names.specs.declared.numbers.SessionId.{SessionId}
pub use Rattle.rk_auth.specs.Chains.{standing_at, home_at, AreChained, has, names, standing_in, home_in, EachOnce, in_standing, IsChain, first_in, next_in}
pub use Rattle.rk_auth.specs.Chains.{first_at, IsChainOf, with_link, with_before, changed_if, link_in, before_in, next_at, before_at, with_first}
pub use Rattle.rk_auth.specs.Chains.{changed_each_at, rehomed, with_next, led_to}
pub use Rattle.rk_auth.specs.Changes.{in_handler, session_changed, all_told, in_stage, told_wait, told}
pub use Rattle.rk_auth.specs.Circles.{Leads, its_own, further, next_key}
pub use Rattle.rk_auth.specs.Seats.{client_of, construction_of, IsTied, who_at, who_of, waited_in, in_session, seen, same_home, waited_of, in_construction}
pub use Rattle.rk_auth.specs.Seats.{AreBothTold, client_named, construction_named, place_of, AreSeated, home_for}
pub use Rattle.rk_auth.specs.Sessions.{Sessions, handler_in, waited_key, is_shared}
pub use Rattle.rk_auth.specs.Walk.{leads_within, next_of}
pub use Rattle.rk_auth.specs.declared.construction.Construction.{Construction}
pub use Rattle.rk_auth.specs.declared.session.Session.{Session}
pub use Rattle.rk_auth.specs.declared.slot.Link.{Link}
pub use Rattle.rk_auth.specs.declared.slot.Slot.{Slot}
pub use Rattle.rk_auth.specs.declared.slot.Standing.{Standing}

-- the slots by their places
abbrev pub Slots : Type 0
Slots = FinMap nat_cmp Slot

-- the slots' places by a name: a client's number, or a construction's key
abbrev pub Index : Type 0
Index = FinMap nat_cmp ℕ
