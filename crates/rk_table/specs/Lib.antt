pub mod Maps
pub mod Entries
pub mod Stored
pub mod Says
pub mod Counts
pub mod Hashed
