pub mod Wildcard
pub mod Laws
