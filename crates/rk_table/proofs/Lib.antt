mod Words
pub mod Entries
pub mod Rising
pub mod Found
pub mod Once
pub mod Gets
pub mod LookedUp
pub mod KeptCounts
pub mod CountsAt
