mod Words
pub mod Joined
pub mod Told
pub mod Chained
pub mod Readings
