mod Words
pub mod Written
pub mod Fronts
pub mod NumbersOfKinds
pub mod Rows
pub mod Subjects
pub mod Steps
pub mod Files
pub mod Sealing
pub mod Filed
