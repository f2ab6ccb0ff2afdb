pub mod Bytes
pub mod Joined
pub mod Scan
pub mod Places
pub mod Ends
