mod Words
pub mod Drawing
pub mod Drawn
pub mod Names
pub mod Held
pub mod Refused
mod Firsts
pub mod Kept
pub mod Indexed
pub mod UserCounts
