pub mod Conversing
pub mod Describing
pub mod Inserting
pub mod OpOfWords
