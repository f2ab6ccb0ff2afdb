-- What is found in a map after a change.
pub use Rattle.rk_table.proofs.Entries.{get_changed_all}
pub use Rattle.rk_table.proofs.Gets.{get_inserted, get_removed, get_changed_at, get_kept_where}
