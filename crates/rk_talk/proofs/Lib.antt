pub mod Sayings
pub mod Seats
