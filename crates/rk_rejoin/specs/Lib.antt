pub mod Chains
pub mod Disk
pub mod Judged
pub mod Read
pub mod Refused
pub mod Rejoined
pub mod Unread
