pub mod Cutting
pub mod Stories
