mod Words
pub mod Heads
pub mod Bodies
pub mod Scripts
pub mod LinesLeft
pub mod WholeFields
pub mod Tables
pub mod Numerals
pub mod BytesRead
