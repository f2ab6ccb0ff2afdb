pub mod Kinds
pub mod Rows
pub mod Rules
pub mod Format
pub mod Seals
pub mod Filed
pub mod Reading
