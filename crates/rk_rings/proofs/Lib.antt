mod Words
pub mod Finds
pub mod Counts
pub mod Links
pub mod Named
pub mod Turned
pub mod Placed
pub mod UserRings
pub mod Changed
pub mod Made
pub mod Counting
pub mod Counted
pub mod Seen
pub mod SeenPlaces
