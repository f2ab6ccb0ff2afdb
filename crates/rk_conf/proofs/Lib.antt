pub mod Macros
pub mod Readings
pub mod Choices
