pub mod Ending
pub mod Paths
pub mod Runs
pub mod Seen
pub mod Starts
pub mod Story
pub mod Words
