pub mod TextRules
pub mod Cuts
mod Digits
