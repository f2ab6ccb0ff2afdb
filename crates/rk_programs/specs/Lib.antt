pub mod Ended
pub mod Started
