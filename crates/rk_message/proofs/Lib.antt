mod Words
pub mod Numbers
pub mod Fields
pub mod Messages
pub mod Faults
pub mod Readers
pub mod Asks
pub mod Replies
pub mod Shapes
pub mod Whole
pub mod Lengths
pub mod Kept
pub mod Lines
pub mod Tells
pub mod Equal
