pub mod Library
pub mod Starts
