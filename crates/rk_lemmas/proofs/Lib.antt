pub mod Bools
pub mod Options
pub mod Lists
pub mod Maps
