pub mod Texts
pub mod Failures
pub mod Lookups
