pub mod HallNumbers
pub mod Record
pub mod Copies
pub mod Journal
pub mod Turns
pub mod Volumes
