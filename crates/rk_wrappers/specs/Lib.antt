pub mod Wrappers
