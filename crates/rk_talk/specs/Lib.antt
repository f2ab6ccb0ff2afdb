pub mod Kept
pub mod Replies
pub mod Said
pub mod Stays
