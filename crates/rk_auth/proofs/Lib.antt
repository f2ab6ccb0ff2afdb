mod Words
pub mod Walks
pub mod Lists
pub mod Slabs
pub mod Links
pub mod Chained
pub mod Rounds
pub mod Stands
pub mod Seen
pub mod Seated
pub mod Told
pub mod Crossing
